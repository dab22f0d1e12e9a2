use Rattle.std.proofs.Common.{arith}
use Rattle.std.proofs.lemmas.Grind.{common_steps}
use Rattle.report_text.proofs.TextLaws.{counted_room, counted_passed, counted_text, refused_text, report_short}
use Rattle.report_text.proofs.write_report.Goals as goal

pub put_head-requires : goal.put_head-requires
put_head-requires c = grind (arith, common_steps, counted_room c.partition_for-partition.ensures _ c.in-Ok.ensures)

pub put_blocks-requires-clause-sound : goal.put_blocks-requires-clause-sound
put_blocks-requires-clause-sound c = counted_passed _ c.in-Ok.ensures

pub put_blocks-requires-clause-room : goal.put_blocks-requires-clause-room
put_blocks-requires-clause-room c = grind (arith, common_steps, counted_room c.partition_for-partition.ensures _ c.in-Ok.ensures)

pub extend_from_slice-requires : goal.extend_from_slice-requires
extend_from_slice-requires c = grind (arith, common_steps, counted_room c.partition_for-partition.ensures _ c.in-Ok.ensures)

pub put_line-requires : goal.put_line-requires
put_line-requires c = grind (arith, common_steps, report_short, refused_text c.partition_for-partition.ensures _ c.in-Err.ensures)

pub returns-in-Ok : goal.returns-in-Ok
returns-in-Ok c = grind (arith, common_steps, counted_text c.partition_for-partition.ensures _ c.in-Ok.ensures)

pub returns-in-Err : goal.returns-in-Err
returns-in-Err c = grind (arith, common_steps, refused_text c.partition_for-partition.ensures _ c.in-Err.ensures)
