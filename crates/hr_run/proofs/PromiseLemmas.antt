-- What is used to say what operators rest on of a lane.
use Rattle.std.proofs.Common.{◌≡◌, refl, true, ℕ, List, [], slice_get}
use Rattle.std.specs.Prelude.{Option, Some, Contains}
use Rattle.std.specs.List.{AllByRecursion}
use Rattle.hr_base.specs.declared.number.RegNo.{RegNo}
use Rattle.hr_digest.specs.declared.digest.Digest.{Digest}
use Rattle.hr_name.specs.Tag.{TagName}
use Rattle.hr_event.specs.declared.entry.Entry.{Entry}
use Rattle.hr_event.specs.declared.entry.How.{How}
use Rattle.hr_event.specs.declared.entry.What.{What}
use Rattle.hr_event.specs.declared.entry.What.TheVariants as what
use Rattle.hr_line.specs.Run.{IsOpening}
use Rattle.hr_line.specs.State.{State}
use Rattle.hr_line.specs.Shows.{Decides, RootRead, SaysShow}
use Rattle.hr_line.specs.declared.held.Admitted.{Admitted}
use Rattle.hr_run.proofs.ListLemmas.{all_at}

-- a tag that a revision finished
pub finished_by : (a : Admitted) (older : List Entry) (said : What)
    → ((tag : TagName) (d : Digest) (old : Option Digest) (how : How) → said ≡ what.Show tag d old how
    → Contains a.spec.tags tag × RootRead a older tag d × Decides a.spec.override_it d old how)
    → SaysShow a older said
finished_by a older (what.Show tag d old how) has = has tag d old how refl
finished_by a older _ has = tt

-- some revision that writes to a registry
abbrev pub writes_to : RegNo → Admitted
writes_to reg = record {
  job = record { 0 = 1 };
  rev = 0;
  spec = record {
    policy = record { 0 = 1 };
    src = reg;
    dst = reg;
    from = [];
    to = [];
    tags = [];
    override_it = true;
    attempts = 1;
  };
}

-- a lane among those with which the core opens
pub opening_at : (lanes : List State) (at : ℕ) (lane : State) → AllByRecursion IsOpening lanes → slice_get lanes at ≡ Some lane
    → IsOpening lane
opening_at lanes at lane new there = all_at IsOpening lanes at lane new there
