-- An answer is read back from its reply.
use Rattle.std.proofs.Common.{◌≡◌, ◌<◌, ◌≤◌, ◌-◌, ◌+◌, ◌^◌, ℕ, Bool, true, false, cond, eqb, List, [], ◌∷◌, codes, Option, Some, Result, Ok, Err, refl, sym, ap, ◌∙◌, inl, inr, arith, append-nil}
use Rattle.std.specs.Prelude.{option_map}
use Rattle.std.specs.List.{AllByRecursion}
use Rattle.std.proofs.lemmas.Bool.{cases_Bool, eqb-true, eqb-false}
use Rattle.hr_base.specs.Bytes.{Media, Text}
use Rattle.hr_call.proofs.ReadingLaws.{digest_back, name_back, tag_back}
use Rattle.hr_call.specs.Reading.{name_in, tag_in}
use Rattle.hr_call.specs.declared.answer.Answer.{Answer}
use Rattle.hr_call.specs.declared.answer.Answer.TheVariants as answer
use Rattle.hr_call.specs.declared.call.Call.{Call}
use Rattle.hr_call.specs.declared.call.Call.TheVariants as call
use Rattle.hr_digest.specs.declared.digest.Digest.{Digest}
use Rattle.hr_frame.specs.declared.head.Head.{Head}
use Rattle.hr_frame.specs.Named.{values_named}
use Rattle.hr_http1.specs.declared.message.Reply.{Reply}
use Rattle.hr_http1.specs.Sendable.{reply_as_read}
use Rattle.hr_name.specs.Name.{RepoName}
use Rattle.hr_name.specs.Tag.{IsTag, TagName}
use Rattle.hr_route.specs.Target.{IsRepo}
use Rattle.hr_wire.specs.declared.answers.NotAnswer.{NotAnswer}
use Rattle.hr_wire.specs.declared.answers.NotAnswer.TheVariants as refused
use Rattle.hr_wire.specs.Answer.{IsAnswerOf, answer_value, count_of, held_by, repos_page, tags_page}
use Rattle.hr_wire.specs.Fitting.{IsAnswerTo, IsReposPage, IsTagsPage, IsThis, asks_head}
use Rattle.hr_wire.specs.Fitting.IsAnswerTo.{pong, repos, tags, named, unnamed, not_named, manifest, no_manifest, size, unmeasured, no_size, blob, no_blob, begun, ended, put, appended, held}
use Rattle.hr_wire.specs.Line.{line}
use Rattle.hr_wire.specs.Listing.{repos_in, repos_text, tags_in, tags_text}
use Rattle.hr_wire.specs.Range.{range_text}
use Rattle.hr_wire.specs.Reply.{held_lines, reply_value}
use Rattle.hr_wire.proofs.GrammarLemmas.{AreUnescaped, name_unescaped, tag_unescaped}
use Rattle.hr_wire.proofs.ListingLemmas.{repos_back, tags_back}
use Rattle.hr_wire.proofs.MediaLemmas.{said_itself}
use Rattle.hr_wire.proofs.RangeLemmas.{decimal_length, range_back}

-- ---- names and tags

repos_plain : (list : List RepoName) → AllByRecursion IsRepo list → AllByRecursion AreUnescaped list
repos_plain [] all = tt
repos_plain (repo ∷ list) all = (name_unescaped all.0.named, repos_plain list all.1)

repos_named : (list : List RepoName) → AllByRecursion IsRepo list → AllByRecursion (λ (repo : Text). name_in repo ≡ Some repo) list
repos_named [] all = tt
repos_named (repo ∷ list) all = (name_back repo all.0.named all.0.short, repos_named list all.1)

tags_plain : (list : List TagName) → AllByRecursion IsTag list → AllByRecursion AreUnescaped list
tags_plain [] all = tt
tags_plain (tag ∷ list) all = (tag_unescaped tag all.0, tags_plain list all.1)

tags_tagged : (list : List TagName) → AllByRecursion IsTag list → AllByRecursion (λ (tag : Text). tag_in tag ≡ Some tag) list
tags_tagged [] all = tt
tags_tagged (tag ∷ list) all = (tag_back tag all.0, tags_tagged list all.1)

-- ---- an upload session

held_value : (at place : Text) (count : ℕ) → count ≤ 2 ^ 63 → answer_value (call.Progress at) (reply_value (call.Progress at) (answer.Held place count)) ≡ Some (answer.Held place count)
unfolding values_named
held_value at place count small =
    let said : Bool → Option Answer = λ t. answer_value (call.Progress at) (record {
      status = 204;
      heads = line (codes "Location") place ∷ cond t [] (line (codes "Range") (range_text 0 (count - 1)) ∷ []);
      body = [];
    }) in
    elim (cases_Bool (eqb count 0)) [
      | inl none ↦ ap said none ∙ ap (λ (n : ℕ). Some (answer.Held place n)) (sym (eqb-true count 0 none))
      | inr some ↦
          let other = eqb-false count 0 some in
          let low : 0 < 2 ^ 63 = omega arith in
          let high : count - 1 < 2 ^ 63 = omega (arith, small, other) in
          let again : (count - 1) + 1 ≡ count = omega (arith, other) in
          ap said some ∙ ap (λ (r : Option (ℕ × ℕ)). held_by (Some place) (count_of r)) (range_back 0 (count - 1) low high)
          ∙ ap (λ (n : ℕ). Some (answer.Held place n)) again
    ]

held_sent : (at place : Text) (count : ℕ) → answer_value (call.Progress at) (reply_as_read false (reply_value (call.Progress at) (answer.Held place count)))
    ≡ answer_value (call.Progress at) (reply_value (call.Progress at) (answer.Held place count))
held_sent at place count =
    ap (λ (heads : List Head). answer_value (call.Progress at) (record { status = 204; heads = heads; body = [] }))
    (append-nil (line (codes "Location") place ∷ held_lines count))

-- ---- pages

repos_back_again : (list : List RepoName) → IsReposPage list → repos_in (repos_text list) ≡ Some list
repos_back_again list page = repos_back list (repos_plain list page.named) (repos_named list page.named) page.short

tags_back_again : (repo : RepoName) (list : List TagName) → IsTagsPage repo list → tags_in (tags_text repo list) ≡ Some list
tags_back_again repo list page =
    tags_back repo list (name_unescaped page.named.named) (tags_plain list page.tagged) (tags_tagged list page.tagged) page.short

-- ---- as it was made

repos_made : (last : Option Text) (list : List RepoName) (more : Bool) → IsReposPage list
    → answer_value (call.Catalog last) (reply_value (call.Catalog last) (answer.Repos list more)) ≡ Some (answer.Repos list more)
unfolding values_named
repos_made last list false page = ap (λ (r : Option (List RepoName)). option_map (repos_page false) r) (repos_back_again list page)
repos_made last list true page = ap (λ (r : Option (List RepoName)). option_map (repos_page true) r) (repos_back_again list page)

tags_made : (repo : RepoName) (last : Option Text) (list : List TagName) (more : Bool) → IsTagsPage repo list
    → answer_value (call.Tags repo last) (reply_value (call.Tags repo last) (answer.Tags list more)) ≡ Some (answer.Tags list more)
unfolding values_named
tags_made repo last list false page = ap (λ (r : Option (List TagName)). option_map (tags_page false) r) (tags_back_again repo list page)
tags_made repo last list true page = ap (λ (r : Option (List TagName)). option_map (tags_page true) r) (tags_back_again repo list page)

made_value : {called : Call} {given : Answer} → IsAnswerTo called given → answer_value called (reply_value called given) ≡ Some given
unfolding values_named
made_value pong = refl
made_value (repos {last = last} {list = list} {more = more} page) = repos_made last list more page
made_value (tags {repo = repo} {last = last} {list = list} {more = more} page) = tags_made repo last list more page
made_value (named {digest = digest} whole) = ap (λ (d : Option Digest). option_map answer.Named d) (digest_back digest whole)
made_value unnamed = refl
made_value not_named = refl
made_value (manifest {fetched = fetched} plain) = ap (λ (m : Media). Some (answer.Manifest (record { media = m; bytes = fetched.bytes }))) (said_itself fetched.media plain)
made_value no_manifest = refl
made_value (size {len = len} small) = ap (λ (l : Option ℕ). option_map answer.Size l) (decimal_length len small)
made_value unmeasured = refl
made_value no_size = refl
made_value blob = refl
made_value no_blob = refl
made_value begun = refl
made_value ended = refl
made_value put = refl
made_value appended = refl
made_value (held {at = at} {place = place} {count = count} small) = held_value at place count small

-- ---- as it is read off a link

repos_read : (last : Option Text) (list : List RepoName) (more : Bool) → IsReposPage list
    → answer_value (call.Catalog last) (reply_as_read (asks_head (call.Catalog last)) (reply_value (call.Catalog last) (answer.Repos list more))) ≡ Some (answer.Repos list more)
unfolding values_named
repos_read last list false page = ap (λ (r : Option (List RepoName)). option_map (repos_page false) r) (repos_back_again list page)
repos_read last list true page = ap (λ (r : Option (List RepoName)). option_map (repos_page true) r) (repos_back_again list page)

tags_read : (repo : RepoName) (last : Option Text) (list : List TagName) (more : Bool) → IsTagsPage repo list
    → answer_value (call.Tags repo last) (reply_as_read (asks_head (call.Tags repo last)) (reply_value (call.Tags repo last) (answer.Tags list more))) ≡ Some (answer.Tags list more)
unfolding values_named
tags_read repo last list false page = ap (λ (r : Option (List TagName)). option_map (tags_page false) r) (tags_back_again repo list page)
tags_read repo last list true page = ap (λ (r : Option (List TagName)). option_map (tags_page true) r) (tags_back_again repo list page)

read_value : {called : Call} {given : Answer} → IsAnswerTo called given → answer_value called (reply_as_read (asks_head called) (reply_value called given)) ≡ Some given
unfolding values_named
read_value pong = refl
read_value (repos {last = last} {list = list} {more = more} page) = repos_read last list more page
read_value (tags {repo = repo} {last = last} {list = list} {more = more} page) = tags_read repo last list more page
read_value (named {digest = digest} whole) = ap (λ (d : Option Digest). option_map answer.Named d) (digest_back digest whole)
read_value unnamed = refl
read_value not_named = refl
read_value (manifest {fetched = fetched} plain) = ap (λ (m : Media). Some (answer.Manifest (record { media = m; bytes = fetched.bytes }))) (said_itself fetched.media plain)
read_value no_manifest = refl
read_value (size {len = len} small) = ap (λ (l : Option ℕ). option_map answer.Size l) (decimal_length len small)
read_value unmeasured = refl
read_value no_size = refl
read_value blob = refl
read_value no_blob = refl
read_value begun = refl
read_value ended = refl
read_value put = refl
read_value appended = refl
read_value (held {at = at} {place = place} {count = count} small) = held_sent at place count ∙ held_value at place count small

-- ---- the laws

some_same : (a b : Answer) → Some a ≡ Some b → b ≡ a
some_same a b e = cc

found_this : (called : Call) (reply : Reply) (given : Answer) (result : Result Answer NotAnswer) → answer_value called reply ≡ Some given → IsAnswerOf called reply result → IsThis given result
found_this called reply given (Ok found) is answers = some_same given found (sym is ∙ answers)
found_this called reply given (Err (refused.Status status)) is answers = absurd (let e = answers.0 in cc)
found_this called reply given (Err refused.Memory) is answers = tt

pub made_answer : (called : Call) (given : Answer) (result : Result Answer NotAnswer) → IsAnswerTo called given → IsAnswerOf called (reply_value called given) result → IsThis given result
made_answer called given result is answers = found_this called (reply_value called given) given result (made_value is) answers

pub read_answer : (called : Call) (given : Answer) (result : Result Answer NotAnswer) → IsAnswerTo called given
    → IsAnswerOf called (reply_as_read (asks_head called) (reply_value called given)) result → IsThis given result
read_answer called given result is answers =
    found_this called (reply_as_read (asks_head called) (reply_value called given)) given result (read_value is) answers
