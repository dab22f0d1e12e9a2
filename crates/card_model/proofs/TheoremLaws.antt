-- All of the card's theorems. Assumes nothing.
use Rattle.card_model.specs.Theorems.{Theorems}
use Rattle.card_model.proofs.SoundLaws as sound
use Rattle.card_model.proofs.RefusalLaws as refusals
use Rattle.card_model.proofs.CallLaws as calls
use Rattle.card_model.proofs.ChainLaws as chains
use Rattle.card_model.proofs.EntryLaws as entries
use Rattle.card_model.proofs.FileLaws as files
use Rattle.card_model.proofs.ReadLaws as reads
use Rattle.card_model.proofs.WitnessLaws as witnesses

pub theorems : Theorems
theorems = record {
  sound_exactly = sound.sound_exactly;
  accepted_sound = sound.accepted_sound;
  refused_exactly = refusals.refused_exactly;
  refused_everywhere = calls.refused_everywhere;
  checks = calls.checks;
  chain_exactly = chains.chain_exactly;
  file_exactly = files.file_exactly;
  no_file = λ card i. entries.no_file _ _;
  sound_file = files.sound_file;
  files_apart = files.files_apart;
  at_most_200 = files.at_most_200;
  all_blocks = files.all_blocks;
  game_place = files.game_place;
  one_game = files.one_game;
  lists = reads.lists;
  lists_none = reads.lists_none;
  lists_flag = reads.lists_flag;
  lists_nothing = reads.lists_nothing;
  protected_exactly = entries.protected_exactly;
  found_by_name = reads.found_by_name;
  reads_block = reads.reads_block;
  reads_file = reads.reads_file;
  refused_33 = reads.refused_33;
  refused_31 = reads.refused_31;
  refused_32 = reads.refused_32;
  refused_unchanged = reads.refused_unchanged;
  empty_sound = witnesses.empty_sound;
  empty_unused = witnesses.empty_unused;
  files_sound = witnesses.files_sound;
  files_kinds = witnesses.files_kinds;
  files_are = witnesses.files_are;
  files-protection = witnesses.files-protection;
  files_orphans = witnesses.files_orphans;
}
