-- Lemmas on the calls that list a source.
use Rattle.std.proofs.Common.{◌≡◌, ◌<◌, ◌≤◌, ◌+◌, ℕ, suc, List, [], ◌∷◌, ◌++◌, length, get_or, take, drop, refl, sym, ap, subst, ◌∙◌, arith}
use Rattle.std.specs.Prelude.{Result, Ok, Err}
use Rattle.std.proofs.lemmas.List.{append-nil, take_all, take_more, take-append-drop}
use Rattle.std.proofs.Math.Seq.{drop-cons}
use Rattle.hr_name.specs.Name.{RepoName}
use Rattle.hr_adapter.specs.Calls.{Asks, KeepsOpen}
use Rattle.hr_adapter.specs.Reg.{IsSound, Reg}
use Rattle.hr_adapter.specs.declared.fault.RegFault.{RegFault}
use Rattle.hr_adapter.specs.declared.fault.RegFault.TheVariants as fault
use Rattle.hr_adapter.proofs.CallLaws.{Moved-asks, Moved-same, Moved-then}
use Rattle.hr_filter.specs.declared.filter.Filter.{Filter}
use Rattle.hr_filter.specs.declared.listed.Listed.{Listed}
use Rattle.hr_plan.specs.Listing.{AsksRepos, AsksTags, Breaks, Goes, Halts, Lists, Reaches, Refuses, Visits, refused_by}
use Rattle.hr_plan.specs.Listing.Breaks.{at_repos, at_tags, no_room}
use Rattle.hr_plan.specs.Listing.Goes.{none, more}
use Rattle.hr_plan.specs.Listing.Halts.{failed, unkept}
use Rattle.hr_plan.specs.Listing.Visits.{passed, asked}
use Rattle.hr_plan.specs.Plan.{HasRisen, Listens}
use Rattle.hr_plan.specs.declared.refusal.PlanRefused.{PlanRefused}
use Rattle.hr_plan.specs.declared.refusal.PlanRefused.TheVariants as why

-- ---- the error of a call

refuses_by : (Answers : RegFault → Type 0) (before after : Reg) (f : RegFault) (low high : ℕ)
    → Answers f → low ≡ before.faults → high ≡ after.faults → Refuses Answers before after (refused_by f low high)
refuses_by Answers before after fault.Failed low high answer l h = (answer, l, h)
refuses_by Answers before after (fault.TooLong len) low high answer l h = answer
refuses_by Answers before after fault.Memory low high answer l h = answer

-- a call answered an error, which is told
pub refuses : (Answers : RegFault → Type 0) (before after : Reg) (f : RegFault) (low high : ℕ) (w : PlanRefused)
    → Answers f → low ≡ before.faults → high ≡ after.faults → w ≡ refused_by f low high → Refuses Answers before after w
refuses Answers before after f low high w answer l h is =
    subst (Refuses Answers before after) (sym is) (refuses_by Answers before after f low high answer l h)

-- what follows from each error of a call follows from what is told of it
pub refused_then : (Answers : RegFault → Type 0) (before after : Reg) (w : PlanRefused) (P : Type 0)
    → ((f : RegFault) → Answers f → P) → Refuses Answers before after w → P
refused_then Answers before after (why.Fault low high) P then r = then RegFault.Failed r.0
refused_then Answers before after (why.TooLong len) P then r = then (RegFault.TooLong len) r
refused_then Answers before after (why.Dest repo) P then r = absurd r
refused_then Answers before after why.Memory P then r = then RegFault.Memory r

-- ---- repository by repository

pub goes_more : (filters : List Filter) (s mid t : Reg) (names : List RepoName) (at : ℕ) (name : RepoName) (listing made : List Listed)
    → Goes filters s (take at names) mid listing → at < length names → name ≡ get_or names at name
    → Visits filters name mid t listing made → Goes filters s (take (at + 1) names) t made
goes_more filters s mid t names at name listing made so_far within is visit =
    more (take at names) name mid listing
    (take_more names at name within ∙ ap (λ (n : RepoName). take at names ++ n ∷ []) (sym is)) so_far visit

cut_at : (names : List RepoName) (at : ℕ) (name : RepoName) → at < length names → name ≡ get_or names at name
    → names ≡ take at names ++ name ∷ drop (at + 1) names
cut_at names at name within is =
    let step : suc at ≡ at + 1 = omega arith in
    let next : drop at names ≡ get_or names at name ∷ drop (at + 1) names
    = drop-cons names at name within ∙ ap (λ (n : ℕ). get_or names at name ∷ drop n names) step in
    sym (take-append-drop at names) ∙ ap (λ (l : List RepoName). take at names ++ l) next
    ∙ ap (λ (n : RepoName). take at names ++ n ∷ drop (at + 1) names) (sym is)

pub breaks_at : (filters : List Filter) (s first mid t : Reg) (names items : List RepoName) (at : ℕ) (name : RepoName)
    (listing : List Listed) (w : PlanRefused)
    → AsksRepos s first (Ok names) → items ≡ names → Goes filters first (take at items) mid listing
    → at < length items → name ≡ get_or items at name → Halts filters name mid t w → Breaks filters s t w
breaks_at filters s first mid t names items at name listing w answer same so_far within is halt =
    at_tags (take at items) (drop (at + 1) items) name mid listing (record {
      first = first;
      asks = subst (λ (l : List RepoName). AsksRepos s first (Ok l)) (sym same ∙ cut_at items at name within is) answer;
      goes = so_far;
    }) halt

pub lists_all : (filters : List Filter) (s first t : Reg) (names items : List RepoName) (at : ℕ) (listing : List Listed)
    → AsksRepos s first (Ok names) → items ≡ names → Goes filters first (take at items) t listing
    → length items ≤ at → Lists filters s t listing
lists_all filters s first t names items at listing answer same so_far past = record {
  names = names;
  reaches = record {
    first = first;
    asks = subst (λ (l : List RepoName). AsksRepos s first (Ok l)) (sym (append-nil names)) answer;
    goes = subst (λ (l : List RepoName). Goes filters first l t listing) (take_all at items past ∙ same) so_far;
  };
}

-- ---- what calls leave

listens_itself : (s : Reg) → Listens s s
listens_itself s = record {
  later = omega arith;
  moved = Moved-same s s refl;
  quiet = λ q. q;
  sure = λ is. (is, refl);
  ever = refl;
  kept = record { reading = refl; writing = refl };
}

pub listens_then : (a b c : Reg) → Listens a b → Listens b c → Listens a c
listens_then a b c h k = record {
  later = let p = h.later in let q = k.later in omega arith;
  moved = Moved-then a b c h.moved h.quiet k.moved;
  quiet = λ q. k.quiet (h.quiet q);
  sure = λ is. let once = h.sure is in let twice = k.sure once.0 in (twice.0, twice.1 ∙ once.1);
  ever = k.ever ∙ h.ever;
  kept = record { reading = k.kept.reading ∙ h.kept.reading; writing = k.kept.writing ∙ h.kept.writing };
}

listens_asked : {T : Type 0} (s t : Reg) (result : Result T RegFault) → IsSound s → Asks s t result → KeepsOpen s t → Listens s t
listens_asked s t result sound asks kept = record {
  later = asks.left.later;
  moved = Moved-asks s t result sound asks;
  quiet = asks.left.quiet;
  sure = asks.left.sure;
  ever = asks.ever;
  kept = kept;
}

pub listens_repos : (s t : Reg) (result : Result (List RepoName) RegFault) → AsksRepos s t result → Listens s t
listens_repos s t result answer = listens_asked s t result answer.sound answer.call.asks answer.call.kept

pub listens_tags : (repo : RepoName) (s t : Reg) (result : Result (List _) RegFault) → AsksTags repo s t result → Listens s t
listens_tags repo s t result answer = listens_asked s t result answer.sound answer.call.asks answer.call.kept

pub listens_visits : (filters : List Filter) (repo : RepoName) (s t : Reg) (listing made : List Listed)
    → Visits filters repo s t listing made → Listens s t
listens_visits filters repo s t listing made (passed misses same is) = subst (Listens s) (sym same) (listens_itself s)
listens_visits filters repo s t listing made (asked tags meets answer is) = listens_tags repo s t (Ok tags) answer

pub listens_goes : (filters : List Filter) (s : Reg) (names : List RepoName) (t : Reg) (made : List Listed)
    → Goes filters s names t made → Listens s t
listens_goes filters s names t made (none empty same is) = subst (Listens s) (sym same) (listens_itself s)
listens_goes filters s names t made (more front repo mid listing cut so_far visit) =
    listens_then s mid t (listens_goes filters s front mid listing so_far) (listens_visits filters repo mid t listing made visit)

pub listens_reaches : (filters : List Filter) (s : Reg) (front rest : List RepoName) (t : Reg) (listing : List Listed)
    → Reaches filters s front rest t listing → Listens s t
listens_reaches filters s front rest t listing r =
    listens_then s r.first t (listens_repos s r.first (Ok (front ++ rest)) r.asks)
    (listens_goes filters r.first front t listing r.goes)

listens_halts : (filters : List Filter) (repo : RepoName) (s t : Reg) (w : PlanRefused) → Halts filters repo s t w → Listens s t
listens_halts filters repo s t w (failed meets r) =
    refused_then (λ f. AsksTags repo s t (Err f)) s t w (Listens s t) (λ f. listens_tags repo s t (Err f)) r
listens_halts filters repo s t w (unkept tags meets answer is) = listens_tags repo s t (Ok tags) answer

pub listens_breaks : (filters : List Filter) (s t : Reg) (w : PlanRefused) → Breaks filters s t w → Listens s t
listens_breaks filters s t w (at_repos r) =
    refused_then (λ f. AsksRepos s t (Err f)) s t w (Listens s t) (λ f. listens_repos s t (Err f)) r
listens_breaks filters s t w (at_tags front rest repo mid listing r halt) =
    listens_then s mid t (listens_reaches filters s front (repo ∷ rest) mid listing r) (listens_halts filters repo mid t w halt)
listens_breaks filters s t w (no_room listing l is) = listens_reaches filters s l.names [] t listing l.reaches

-- ---- faults

risen_asked : {T : Type 0} (s t : Reg) (low high : ℕ) → Asks {T = T} s t (Err RegFault.Failed)
    → low ≡ s.faults → high ≡ t.faults → HasRisen s t low high
risen_asked s t low high asks l h = record {
  since = omega (arith, l);
  rose = rw (l, h) (asks.left.failed refl);
  now = h;
  never = λ is. asks.left.never is refl;
}

pub risen_breaks : (filters : List Filter) (s t : Reg) (low high : ℕ) → Breaks filters s t (PlanRefused.Fault low high) → HasRisen s t low high
risen_breaks filters s t low high (at_repos r) = risen_asked s t low high r.0.call.asks r.1 r.2
risen_breaks filters s t low high (at_tags front rest repo mid listing r (failed meets q)) =
    let so_far = listens_reaches filters s front (repo ∷ rest) mid listing r in
    let here = risen_asked mid t low high q.0.call.asks q.1 q.2 in
    record {
      since = let p = so_far.later in let n = here.since in omega arith;
      rose = here.rose;
      now = here.now;
      never = λ is. here.never (so_far.sure is).0;
    }
risen_breaks filters s t low high (at_tags front rest repo mid listing r (unkept tags meets answer is)) = cc is
risen_breaks filters s t low high (no_room listing l is) = cc is
