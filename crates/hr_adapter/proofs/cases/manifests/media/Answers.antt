use Rattle.std.proofs.Common.{arith, refl}
use Rattle.std.proofs.lemmas.List.Sums.{AllPass-from_list_all}
use Rattle.hr_adapter.specs.Media.{is_header_byte}
use Rattle.hr_adapter.specs.declared.cases.manifests.TheConstants.{MEDIA}
use Rattle.hr_adapter.proofs.cases.manifests.media.Goals as goal

pub returns : goal.returns
returns c = record {
  some = λ none. cc;
  each = AllPass-from_list_all is_header_byte MEDIA.now refl;
  short = omega arith;
}
