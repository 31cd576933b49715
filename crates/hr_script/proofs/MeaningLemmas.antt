-- Chains of meanings: what answers them, that one answer is right, and that none is without.
use Rattle.std.proofs.Common.{◌≡◌, List, [], ◌∷◌, ◌++◌, Result, Ok, Err, refl, sym, ap, ◌∙◌, subst, append_assoc}
use Rattle.std.proofs.lemmas.List.{append-nil}
use Rattle.hr_script.specs.declared.refusal.Why.{Why}
use Rattle.hr_script.specs.declared.refusal.Refused.{Refused}
use Rattle.hr_script.specs.declared.refusal.Refused.TheVariants.{Bad, Memory}
use Rattle.hr_script.specs.Meaning.{Answers, Meaning, each}

-- ---- want of memory apart

-- a refusal that is right, where it is no want of memory
pub unless_memory : {A : Type 0} (meaning : Meaning A) (e : Refused) → ((why : Why) → e ≡ Bad why → meaning (Err why)) → Answers meaning (Err e)
unless_memory meaning (Bad why) right = right why refl
unless_memory meaning Memory right = tt

pub refused : {A : Type 0} (meaning : Meaning A) (e : Refused) (why : Why) → e ≡ Bad why → Answers meaning (Err e) → meaning (Err why)
refused {A} meaning e why is h = let h2 : Answers meaning (Err (Bad why)) = subst (λ (d : Refused). Answers meaning (Err d)) is h in h2

-- ---- values one after the other

-- some values in front of others
abbrev pub behind : {A : Type 0} → List A → Result (List A) Why → Result (List A) Why
behind values (Ok others) = Ok (values ++ others)
behind values (Err why) = Err why

-- what is left to be read of each of the words gives what all of them give
pub record Remains {W A : Type 0} (of : W → Meaning A) (words left : List W) (values : List A) : Type 0 where
  pub whole : (answer : Result (List A) Why) → each of left answer → each of words (behind values answer)

nothing_before : {A : Type 0} (answer : Result (List A) Why) → answer ≡ behind [] answer
nothing_before (Ok values) = refl
nothing_before (Err why) = refl

pub none_read : {W A : Type 0} (of : W → Meaning A) (words : List W) → Remains of words words []
none_read of words = record {
  whole = λ answer h. subst (λ (a : Result _ Why). each of words a) (nothing_before answer) h;
}

-- one value more was read
pub one_read : {W A : Type 0} (of : W → Meaning A) (words left rest : List W) (values : List A) (word : W) (value : A) → Remains of words left values → left ≡ word ∷ rest → of word (Ok value) → Remains of words rest (values ++ value ∷ [])
one_read {W} {A} of words left rest values word value remains cut is = record { whole = go }
  where
    go : (answer : Result (List A) Why) → each of rest answer → each of words (behind (values ++ value ∷ []) answer)
    go (Ok others) h =
        let next : each of left (Ok (value ∷ others)) = subst (λ (l : List W). each of l (Ok (value ∷ others))) (sym cut) (Ok value, is, (Ok others, h, refl)) in
        subst (λ (l : List A). each of words (Ok l)) (sym (append_assoc values (value ∷ []) others)) (remains.whole (Ok (value ∷ others)) next)
    go (Err why) h =
        let next : each of left (Err why) = subst (λ (l : List W). each of l (Err why)) (sym cut) (Ok value, is, (Err why, h, refl)) in
        remains.whole (Err why) next

-- the next word is refused, and so all of them are
pub next_refused : {W A : Type 0} (of : W → Meaning A) (words left rest : List W) (values : List A) (word : W) (e : Refused) → Remains of words left values → left ≡ word ∷ rest → Answers (of word) (Err e) → Answers (each of words) (Err e)
next_refused {W} of words left rest values word (Bad why) remains cut is =
    let next : each of left (Err why) = subst (λ (l : List W). each of l (Err why)) (sym cut) (Err why, is, refl) in
    remains.whole (Err why) next
next_refused of words left rest values word Memory remains cut is = tt

-- no word is left
pub all_read : {W A : Type 0} (of : W → Meaning A) (words left : List W) (values : List A) → Remains of words left values → left ≡ [] → each of words (Ok values)
all_read {W} {A} of words left values remains none =
    let next : each of left (Ok []) = subst (λ (l : List W). each of l (Ok [])) (sym none) refl in
    subst (λ (l : List A). each of words (Ok l)) (append-nil values) (remains.whole (Ok []) next)

-- ---- words that are known

pub at_words : {W B : Type 0} (of : List W → Meaning B) (words others : List W) (answer : Result B Why) → words ≡ others → of others answer → of words answer
at_words {W} of words others answer same h = subst (λ (l : List W). of l answer) (sym same) h

-- a word in front of words that are known
pub joined : {W : Type 0} {words rest others : List W} {word : W} → words ≡ word ∷ rest → rest ≡ others → words ≡ word ∷ others
joined {W} {word = word} first next = first ∙ ap (λ (l : List W). word ∷ l) next
