-- The laws of the records and of their run, together.
use Rattle.base.proofs.Prelude.{refl}
use Rattle.phases_replay.specs.Laws.{Laws}
use Rattle.phases_replay.proofs.Records.{record_lawful, first_read, later_read}
use Rattle.phases_replay.proofs.Runs.{holds_account}
use Rattle.phases_replay.proofs.Inputs.{compared}

pub laws : Laws
laws =
    record {
      record_width = refl;
      record_lawful = record_lawful;
      first_read = first_read;
      later_read = later_read;
      account_held = λ rows table s bytes started. holds_account s bytes started rows table;
      compared = compared;
    }
