-- The theorems of a write and of a delete, together. Assumes nothing.
use mathlib.Core.Path.{refl}
use Rattle.card_updates.specs.Theorems.{UpdateTheorems}
use Rattle.card_updates.proofs.PartLaws.{part_length, part_same, part-other}
use Rattle.card_updates.proofs.PlaceLaws.{blocks_apart, links_apart, entries_apart}
use Rattle.card_updates.proofs.PlaceLaws.{block-put, block-other, block-table, block-directory}
use Rattle.card_updates.proofs.PlaceLaws.{link-table, link-directory, link-block, entry-table, entry-directory, entry-block}
use Rattle.card_updates.proofs.DeleteLaws as delete
use Rattle.card_updates.proofs.RoomLaws as room
use Rattle.card_updates.proofs.WriteLaws as write
use Rattle.card_updates.proofs.RefusalLaws as refusals
use Rattle.card_updates.proofs.ReadLaws as reads
use Rattle.card_updates.proofs.ExampleLaws as examples
use Rattle.card_updates.proofs.ComputedLaws as short

pub update-theorems : UpdateTheorems
update-theorems = record {
  puts_part = λ card at part h. record {
    same_length = part_length card at part h;
    put = part_same card at part h;
    other = part-other card at part h;
  };
  puts_block = λ card b part l h w. record {
    put = block-put card b part w l h;
    other_blocks = block-other card b part w l h;
    table = block-table card b part w l h;
    directory = block-directory card b part w l h;
  };
  puts_link = λ card b e l h. record {
    table = link-table card b e l h;
    directory = link-directory card b e l h;
    blocks = link-block card b e l h;
  };
  puts_entry = λ card i entry l h w. record {
    table = entry-table card i entry w l h;
    directory = entry-directory card i entry w l h;
    blocks = entry-block card i entry w l h;
  };
  blocks_apart = blocks_apart;
  links_apart = links_apart;
  entries_apart = entries_apart;
  given_as = λ flag name time content. (refl, refl, refl, refl);
  delete_exactly = refusals.delete_exactly;
  write_exactly = refusals.write_exactly;
  delete_refused = delete.delete_refused;
  write_refused = write.write_refused;
  never_full = room.never_full;
  delete_zero = refusals.delete_zero;
  write_zero = refusals.write_zero;
  deletes = delete.deletes;
  writes = write.writes;
  write_others_read = reads.write_others_read;
  delete_others_read = reads.delete_others_read;
  empty_writes = examples.empty_writes;
  empty_taken = examples.empty_taken;
  empty_entry = examples.empty_entry;
  scattered_sound = examples.scattered_sound;
  scattered_orphans = examples.scattered_orphans;
  scattered_writes = examples.scattered_writes;
  scattered_taken = examples.scattered_taken;
  scattered_entry = examples.scattered_entry;
  scattered_fits = examples.scattered_fits;
  scattered_deletes = examples.scattered_deletes;
  scattered_refused = examples.scattered_refused;
  open_sound = examples.open_sound;
  open_writes = examples.open_writes;
  open_taken = examples.open_taken;
  open_entry = examples.open_entry;
  short_part = short.short_part;
  short_free = short.short_free;
  short_unused = short.short_unused;
  short-entry = short.short-entry;
  short_blocks = short.short_blocks;
  short_freed = short.short_freed;
  write_bytes = examples.write_bytes;
  delete_bytes = examples.delete_bytes;
}
