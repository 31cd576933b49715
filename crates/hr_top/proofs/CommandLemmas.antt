-- The words of a command, and how it ends.
use Rattle.std.proofs.Common.{◌≡◌, ◌<◌, ◌≤◌, ◌⊎◌, inl, inr, ⊎_elim, Option, ℕ, Bool, true, nat_eq, List, [], ◌∷◌, length, get_or, refl, sym, ap, ◌∙◌, subst, arith}
use Rattle.std.specs.Cmp.Lexicographic.{pointwise}
use Rattle.std.proofs.lemmas.Slice.Eq.{bytes_eq-Decides}
use Rattle.hr_base.specs.Bytes.{ByteList, Text}
use Rattle.hr_tree.specs.Tree.{Files}
use Rattle.hr_top.specs.Answers.{fault_text, long_text, tree_fault_text, usage_text}
use Rattle.hr_cause.specs.Stream.{Took, TookFront}
use Rattle.hr_top.specs.Command.{IsAny, IsRefused, IsStatus, Sent, SentFront}
use Rattle.hr_top.specs.Outcome.{Comes, sent_status_of, text_of, unsent_status_of}
use Rattle.hr_top.specs.declared.outcome.Outcome.{Outcome}
use Rattle.hr_top.specs.declared.outcome.Outcome.TheVariants.{Replayed, Checked, Usage, Bad, TooLong, Unfit, Faulted, TreeFaulted, Memory}
use Rattle.hr_replay.specs.Replay.{HasStatus}
use Rattle.hr_run.specs.State.{CoreState}
use Rattle.hr_replay.specs.declared.ending.Ending.{Ending}

-- there is one word, and it is this text
pub one_word : (words : List (List ℕ)) (word v s : List ℕ) (r : Bool) → 1 ≤ length words → length words < 2 → word ≡ get_or words 0 word → v ≡ word → r ≡ pointwise nat_eq v s
    → (r ≡ true → words ≡ s ∷ []) × (words ≡ s ∷ [] → r ≡ true)
one_word [] word v s r some few is view eq = absurd (omega arith)
one_word (w ∷ []) word v s r some few is view eq =
    let decides = bytes_eq-Decides v s in
    let same : v ≡ w = view ∙ is in (
      λ h. ap (λ (l : List ℕ). l ∷ []) (sym same ∙ decides.0 (sym eq ∙ h)),
      λ h. let head : w ≡ s = cc h in eq ∙ decides.1 (same ∙ head),
    )
one_word (w ∷ x ∷ more) word v s r some few is view eq = absurd (omega arith)

-- ---- the status

zero_or_seven : (state : CoreState) (status : ℕ) → HasStatus state status → (status ≡ 0) ⊎ (status ≡ 7)
zero_or_seven state status has = ⊎_elim (λ done. inl done.1) (λ failed. inr failed.1) has

pub sent_status_is : (outcome : Outcome) (words : List Text) (before now : Option ByteList) (files : Option Files) (faults faults' tree tree' : ℕ) (kept : Ending) → Comes outcome words before now files faults faults' tree tree' kept
    → IsStatus (sent_status_of outcome)
sent_status_is (Replayed text status) words before now files faults faults' tree tree' kept comes =
    ⊎_elim
    (λ zero. subst IsStatus (sym zero) (0, omega arith, refl))
    (λ seven. subst IsStatus (sym seven) (6, omega arith, refl))
    (zero_or_seven comes.0.run.run.after status comes.0.run.run.ends)
sent_status_is (Checked text) words before now files faults faults' tree tree' kept comes = (0, omega arith, refl)
sent_status_is Usage words before now files faults faults' tree tree' kept comes = (1, omega arith, refl)
sent_status_is (Bad text) words before now files faults faults' tree tree' kept comes = (2, omega arith, refl)
sent_status_is TooLong words before now files faults faults' tree tree' kept comes = (2, omega arith, refl)
sent_status_is (Unfit text) words before now files faults faults' tree tree' kept comes = (2, omega arith, refl)
sent_status_is Faulted words before now files faults faults' tree tree' kept comes = (3, omega arith, refl)
sent_status_is TreeFaulted words before now files faults faults' tree tree' kept comes = (3, omega arith, refl)
sent_status_is Memory words before now files faults faults' tree tree' kept comes = (5, omega arith, refl)

-- a refusal was sent, where the status says so
pub refused_is : (outcome : Outcome) (words : List Text) (before now : Option ByteList) (files : Option Files) (faults faults' tree tree' : ℕ) (kept : Ending) (sent sent' : Option ByteList)
    → Comes outcome words before now files faults faults' tree tree' kept → Took sent (text_of outcome) sent' → sent_status_of outcome ≡ 2
    → Sent (IsRefused words before now files kept) sent sent'
refused_is (Bad text) words before now files faults faults' tree tree' kept sent sent' comes took two = (text, inl comes.0, took)
refused_is TooLong words before now files faults faults' tree tree' kept sent sent' comes took two = (long_text, inl comes.0, took)
refused_is (Unfit text) words before now files faults faults' tree tree' kept sent sent' comes took two = (text, inr comes.0, took)
refused_is (Replayed text status) words before now files faults faults' tree tree' kept sent sent' comes took two =
    absurd (⊎_elim (λ zero. omega arith) (λ seven. omega arith) (zero_or_seven comes.0.run.run.after status comes.0.run.run.ends))
refused_is (Checked text) words before now files faults faults' tree tree' kept sent sent' comes took two = absurd (omega arith)
refused_is Usage words before now files faults faults' tree tree' kept sent sent' comes took two = absurd (omega arith)
refused_is Faulted words before now files faults faults' tree tree' kept sent sent' comes took two = absurd (omega arith)
refused_is TreeFaulted words before now files faults faults' tree tree' kept sent sent' comes took two = absurd (omega arith)
refused_is Memory words before now files faults faults' tree tree' kept sent sent' comes took two = absurd (omega arith)

-- a front of the outcome's text was sent, where the status says so
pub cut_off_is : (outcome : Outcome) (words : List Text) (before now : Option ByteList) (files : Option Files) (faults faults' tree tree' : ℕ) (kept : Ending) (sent sent' : Option ByteList)
    → Comes outcome words before now files faults faults' tree tree' kept → TookFront sent (text_of outcome) sent' → unsent_status_of outcome ≡ 4
    → SentFront (IsAny words before now files faults faults' tree tree' kept) sent sent'
cut_off_is (Replayed text status) words before now files faults faults' tree tree' kept sent sent' comes front four = (text, inl (status, inl comes.0), front)
cut_off_is (Checked text) words before now files faults faults' tree tree' kept sent sent' comes front four = (text, inl (0, inr (refl, comes.0)), front)
cut_off_is Usage words before now files faults faults' tree tree' kept sent sent' comes front four = (usage_text, inr (inl comes.0), front)
cut_off_is (Bad text) words before now files faults faults' tree tree' kept sent sent' comes front four = (text, inr (inr (inl (inl comes.0))), front)
cut_off_is TooLong words before now files faults faults' tree tree' kept sent sent' comes front four = (long_text, inr (inr (inl (inl comes.0))), front)
cut_off_is (Unfit text) words before now files faults faults' tree tree' kept sent sent' comes front four = (text, inr (inr (inl (inr comes.0))), front)
cut_off_is Faulted words before now files faults faults' tree tree' kept sent sent' comes front four = (fault_text, inr (inr (inr (inl comes.0))), front)
cut_off_is TreeFaulted words before now files faults faults' tree tree' kept sent sent' comes front four = (tree_fault_text, inr (inr (inr (inr comes.0))), front)
cut_off_is Memory words before now files faults faults' tree tree' kept sent sent' comes front four = absurd (omega arith)
