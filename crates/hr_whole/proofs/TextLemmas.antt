-- Sources that were opened quiet go on telling the texts that they told.
use Rattle.std.proofs.Common.{◌≡◌, refl, sym, ap, subst, ◌∙◌}
use Rattle.std.specs.Prelude.{Option, Some, None, IfSome, IsSome, IsTrue, option_and_then, option_map}
use Rattle.hr_base.specs.Bytes.{ByteList}
use Rattle.hr_adapter.specs.Content.{Content}
use Rattle.hr_adapter.specs.Reg.{Reg}
use Rattle.hr_journal.specs.Origin.{AllTell, IsText, Source}
use Rattle.hr_line.specs.Orderly.{admitted_at, place_at, placement}
use Rattle.hr_line.specs.Sources.{origin, source_of, source_seen}
use Rattle.hr_line.specs.State.{State, link_at}
use Rattle.hr_line.specs.declared.held.Admitted.{Admitted}
use Rattle.hr_whole.specs.Copied.{NoTwoTexts}
use Rattle.hr_whole.specs.Texts.{HaveSources, IsOpenText, OpensWithOneText}
use Rattle.hr_whole.proofs.RunLemmas.{Ran}

some_told : (o : Option Content) → IsSome o → (c : Content) × (o ≡ Some c)
some_told (Some c) some = (c, refl)
some_told None some = cc

mapped : {X Y : Type 0} (f : X → Y) (o : Option X) (y : Y) → option_map f o ≡ Some y → (x : X) × (o ≡ Some x) × (f x ≡ y)
mapped f (Some x) y is = (x, refl, (let e : f x ≡ y = cc in e))
mapped f None y is = cc

module _ (s t : State) (o : Content) (ran : Ran s t) (one : OpensWithOneText s o) (have : HaveSources s t) where
  -- the connection of a revision, as it was opened and as it is
  opened_at : (b : Admitted) → IsSome (link_at s.sources b.spec.src) → (f : Reg) × (g : Reg) × (c : Content)
      × (link_at s.sources b.spec.src ≡ Some f) × (link_at t.sources b.spec.src ≡ Some g) × (f.told ≡ Some c) × (g.told ≡ Some c)
  opened_at b some = at (link_at s.sources b.spec.src) refl some
    where
      at : (found : Option Reg) → link_at s.sources b.spec.src ≡ found → IsSome found → (f : Reg) × (g : Reg) × (c : Content)
          × (link_at s.sources b.spec.src ≡ Some f) × (link_at t.sources b.spec.src ≡ Some g) × (f.told ≡ Some c) × (g.told ≡ Some c)
      at None e some = cc
      at (Some f) e some =
          let both = subst (λ (x : Option Reg). IfSome x (λ f. IsTrue f.quiet × IsSome f.told)) e (one.tell b.spec.src) in
          let now = ran.went.sources b.spec.src f e in
          let told = some_told f.told both.1 in
          (f, now.0, told.0, e, now.1, told.1, (now.2.quiet both.0).1 ∙ told.1)

  seen_at : (b : Admitted) (g : Reg) (c : Content) → link_at t.sources b.spec.src ≡ Some g → g.told ≡ Some c
      → source_of t.sources b ≡ Some (record { content = c; ever = g.ever; repo = b.spec.from })
  seen_at b g c here told =
      ap (option_and_then (source_seen b.spec.from)) here
      ∙ ap (option_map (λ (x : Content). record { content = x; ever = g.ever; repo = b.spec.from })) told

  tells : (a : Admitted) → AllTell (placement a.spec.dst t.admitted) (origin t.sources t.admitted) t.log
  tells a e within some = at (admitted_at t.admitted e.job.0 e.rev) (have e.job.0 e.rev) some
    where
      at : (found : Option Admitted) → IfSome found (λ b. IsSome (link_at s.sources b.spec.src))
          → IsSome (option_and_then (place_at a.spec.dst) found) → IsSome (option_and_then (source_of t.sources) found)
      at None from some = cc
      at (Some b) from some =
          let both = opened_at b from in
          subst (λ (x : Option Source). IsSome x) (sym (seen_at b both.1 both.2 both.4 both.6)) refl

  text_opened : (bytes : ByteList) → IsText o (origin t.sources t.admitted) bytes → IsOpenText s o bytes
  text_opened bytes (IsText.opened holds) = IsOpenText.dest holds
  text_opened bytes (IsText.source job rev src is holds) = at (admitted_at t.admitted job rev) (have job rev) is
    where
      at : (found : Option Admitted) → IfSome found (λ b. IsSome (link_at s.sources b.spec.src))
          → option_and_then (source_of t.sources) found ≡ Some src → IsOpenText s o bytes
      at None from is = cc
      at (Some b) from is =
          let both = opened_at b from in
          let same : Some (record { content = both.2; ever = both.1.ever; repo = b.spec.from }) ≡ Some src =
          sym (seen_at b both.1 both.2 both.4 both.6) ∙ is in
          let one : record { content = both.2; ever = both.1.ever; repo = b.spec.from } ≡ src = cc in
          let content : src.content ≡ both.2 = ap (λ (x : Source). x.content) (sym one) in
          IsOpenText.source b.spec.src both.0 src.content both.3 (both.5 ∙ ap Some (sym content)) holds

  pub no_two : (a : Admitted) → NoTwoTexts t a o
  no_two a = record {
    tell = tells a;
    once = λ x y first second. one.once x y (text_opened x first) (text_opened y second);
  }
