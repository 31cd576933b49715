-- Lemmas on bodies of a known length, and on those to the end of the device.
use Rattle.std.proofs.Common.{◌≡◌, ℕ, ◌+◌, ◌-◌, ◌<◌, ◌≤◌, inl, inr, true, false, [], ◌∷◌, ◌++◌, length, take, drop, refl, sym, ap, subst, ◌∙◌, arith, append-nil}
use Rattle.std.specs.Prelude.{nat_lt}
use Rattle.std.proofs.lemmas.Grind.{common_steps}
use Rattle.std.proofs.lemmas.Bool.Decides.{nat_tests}
use Rattle.std.proofs.lemmas.List.{take-append-drop}
use Rattle.hr_base.specs.Bytes.{ByteList}
use Rattle.hr_body.specs.declared.stage.Stage.TheVariants.{Sized, ToEnd, Done}
use Rattle.hr_body.specs.Leading.{Leads, HoldsBody}
use Rattle.hr_body.specs.Stage.{sized_past}
use Rattle.hr_body.proofs.LeadingLemmas.{sized_leads, to_end_leads, body_unique, ended_none}
use Rattle.hr_body.proofs.TrailerLemmas.{tests_as}

pub sized_over : (more n : ℕ) → more < n → sized_past more n ≡ Done
sized_over more n lt = let t : nat_lt more n ≡ true = grind (arith, nat_tests) in rw t refl

sized_still : (more n : ℕ) → n ≤ more → sized_past more n ≡ Sized (more - n)
sized_still more n le = let t : nat_lt more n ≡ false = grind (arith, nat_tests) in rw t refl

pub sized_holds : (more : ℕ) (bytes body rest : ByteList) → length body ≡ more + 1 → bytes ≡ body ++ rest → HoldsBody (Sized more) bytes body rest
sized_holds more bytes body rest len is =
    let some : 0 < length body = omega (arith, len) in
    let fits : length body ≤ more + 1 = omega (arith, len) in
    let past : more < length body = omega (arith, len) in
    record {
      front = body;
      end = Done;
      cut = is;
      may_end = tt;
      leads = subst (λ q. Leads (Sized more) body body q) (sized_over more (length body) past) (sized_leads body more some fits);
    }

pub to_end_holds : (bytes : ByteList) → HoldsBody ToEnd bytes bytes []
to_end_holds bytes = record { front = bytes; end = ToEnd; cut = sym (append-nil bytes); may_end = refl; leads = to_end_leads bytes }

pub to_end_is : (bytes body rest : ByteList) → (body ≡ bytes) × (rest ≡ []) → HoldsBody ToEnd bytes body rest
to_end_is bytes body rest is = subst (λ r. HoldsBody ToEnd bytes body r) (sym is.1) (subst (λ b. HoldsBody ToEnd bytes b []) (sym is.0) (to_end_holds bytes))

pub to_end_only : (bytes body rest : ByteList) → HoldsBody ToEnd bytes body rest → (body ≡ bytes) × (rest ≡ [])
to_end_only bytes body rest h = body_unique ToEnd bytes body bytes rest [] h (to_end_holds bytes)

short_none : (more : ℕ) (bytes body rest : ByteList) → length bytes ≤ more → HoldsBody (Sized more) bytes body rest → ⊥
short_none more [] body rest le h = ended_none (Sized more) (Sized more) [] [] body rest (record { ends = refl; gives = refl }) tt h
short_none more (b ∷ bytes) body rest le h =
    let some : 0 < length (b ∷ bytes) = omega arith in
    let fits : length (b ∷ bytes) ≤ more + 1 = omega (arith, le) in
    let leads = subst (λ q. Leads (Sized more) (b ∷ bytes) (b ∷ bytes) q) (sized_still more (length (b ∷ bytes)) le) (sized_leads (b ∷ bytes) more some fits) in
    ended_none (Sized more) (Sized (more - length (b ∷ bytes))) (b ∷ bytes) (b ∷ bytes) body rest leads tt h

pub sized_only : (more : ℕ) (bytes body rest : ByteList) → HoldsBody (Sized more) bytes body rest → (length body ≡ more + 1) × (bytes ≡ body ++ rest)
sized_only more bytes body rest h =
    elim (tests_as (nat_lt more (length bytes))) [
      | inl enough ↦
          let le : more + 1 ≤ length bytes = grind (arith, nat_tests) in
          let len : length (take (more + 1) bytes) ≡ more + 1 = grind (arith, common_steps) in
          let split : bytes ≡ take (more + 1) bytes ++ drop (more + 1) bytes = sym (take-append-drop (more + 1) bytes) in
          let same = body_unique (Sized more) bytes body (take (more + 1) bytes) rest (drop (more + 1) bytes) h
          (sized_holds more bytes (take (more + 1) bytes) (drop (more + 1) bytes) len split) in
          (ap length same.0 ∙ len, split ∙ ap (λ l. l ++ drop (more + 1) bytes) (sym same.0) ∙ ap (λ l. body ++ l) (sym same.1))
      | inr short ↦
          let le : length bytes ≤ more = grind (arith, nat_tests) in
          absurd (short_none more bytes body rest le h)
    ]
