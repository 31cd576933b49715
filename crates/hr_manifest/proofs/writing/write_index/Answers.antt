use Rattle.std.proofs.Common.{◌≡◌, ◌≤◌, ℕ, List, length, sym, subst, rules}
use Rattle.hr_manifest.specs.Canonical.{index_media, index_text}
use Rattle.hr_manifest.specs.Reading.{Reads}
use Rattle.hr_manifest.proofs.RoundTripLemmas.{listed_each, index_children_back, writable_each}
use Rattle.hr_manifest.proofs.writing.write_index.Goals as goal

pub returns-clause-reads_back : goal.returns-clause-reads_back
returns-clause-reads_back c listed few short =
    let children = c.args.children.now in
    let text : c.from.result ≡ index_text children = search rules in
    subst (λ (t : List ℕ). Reads index_media t children) (sym text)
    (index_children_back children (writable_each children c.in_ok-push_children.ensures.fit listed c.requires) (listed_each children listed) few (subst (λ (t : List ℕ). length t ≤ 4194304) text short))
