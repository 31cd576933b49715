-- Each meaning has one right answer and no other, and so has each text.
use Rattle.std.proofs.Common.{◌≡◌, ◌+◌, ℕ, Bool, true, false, List, [], ◌∷◌, Option, Some, None, Result, Ok, Err, refl, sym, ap, ◌∙◌, subst}
use Rattle.hr_base.specs.Bytes.{Text}
use Rattle.hr_base.specs.declared.number.JobNo.{JobNo}
use Rattle.hr_base.specs.declared.number.PolicyNo.{PolicyNo}
use Rattle.hr_base.specs.declared.number.RegNo.{RegNo}
use Rattle.hr_event.specs.declared.event.Event.TheVariants as event
use Rattle.hr_script.specs.declared.kind.Kind.{Kind}
use Rattle.hr_script.specs.declared.kind.Kind.TheVariants as kinds
use Rattle.hr_script.specs.declared.line.Line.{Line}
use Rattle.hr_script.specs.declared.line.Line.TheVariants.{Image, Index, Orphan, Break, Fault, Change, Jobs, Event}
use Rattle.hr_script.specs.declared.reading.Lines.{Lines}
use Rattle.hr_script.specs.declared.refusal.Why.{Why}
use Rattle.hr_script.specs.declared.refusal.Why.TheVariants as why
use Rattle.hr_text.proofs.HexLaws.{spelled_once}
use Rattle.hr_text.proofs.NumberLaws.{one_number}
use Rattle.hr_script.specs.declared.progress.Progress.{Progress}
use Rattle.hr_script.specs.Kind.{kind_in, kind_of}
use Rattle.hr_script.specs.Event.{cause_of, deliver_of, exec_of, finish_of, forge_of, only_job, only_number, row_of, settle_of, step_of, stop_of, sweep_of, tags_of, take_of, trigger_of, wait_of, word_of}
use Rattle.hr_script.specs.Line.{arguments_of, break_of, image_of, index_of, jobs_of, line_meaning, manifest_of, meaning_of, orphan_of, unless_misplaced, where_read}
use Rattle.hr_script.specs.Meaning.{Follows, Meaning, each, stands_for, ◌>>=◌}
use Rattle.hr_script.specs.Planned.{change_of, fault_of}
use Rattle.hr_script.specs.Reading.{AreRead, GoesOn, IsReading, nothing, stopped, with_line}
use Rattle.hr_script.specs.Progress.{at_start, is_misplaced, progress_after}
use Rattle.hr_script.specs.Status.{status_in, status_named}
use Rattle.hr_script.specs.Text.{is_read, lines_of, words_of}
use Rattle.hr_script.specs.Word.{IsJobCount, IsLayerWord, IsMedia, IsNameWord, IsOperation, IsRegistry, IsRevision, IsSeconds, IsSmallNumber, IsTagWord, job_count_in, job_in, lane_in, lane_numbered, layer_in, media_in, name_in, operation_in, policy_in, registry_in, revision_in, seconds_in, small_in, tag_in}

-- two right answers are equal, and there is no want of one
pub record IsOne {A : Type 0} (meaning : Meaning A) : Type 0 where
  pub same : (one other : Result A Why) → meaning one → meaning other → one ≡ other
  pub some : ((answer : Result A Why) → meaning answer → ⊥) → ⊥

one_equal : {A : Type 0} (right : Result A Why) → IsOne (λ answer. answer ≡ right)
one_equal right = record { same = λ one other p q. p ∙ sym q; some = λ none. none right refl }

one_value : {A : Type 0} (Is : A → Type 0) (why : Why) → ((one other : A) → Is one → Is other → one ≡ other) → IsOne (stands_for Is why)
one_value {A} Is why equal = record { same = go; some = λ none. none (Err why) (refl, λ value is. none (Ok value) is) }
  where
    go : (one other : Result A Why) → stands_for Is why one → stands_for Is why other → one ≡ other
    go (Ok v) (Ok u) h k = ap Ok (equal v u h k)
    go (Ok v) (Err x) h k = absurd (k.1 v h)
    go (Err w) (Ok u) h k = absurd (h.1 u k)
    go (Err w) (Err x) h k = ap Err (h.0 ∙ sym k.0)

one_chain : {A B : Type 0} (first : Meaning A) (next : A → Meaning B) → IsOne first → ((value : A) → IsOne (next value)) → IsOne (first >>= next)
one_chain {A} {B} first next one each_one = record { same = both; some = λ none. one.some (λ value h. go_on value h none) }
  where
    followed : (value : Result A Why) (r s : Result B Why) → Follows next value r → Follows next value s → r ≡ s
    followed (Ok v) r s h k = (each_one v).same r s h k
    followed (Err w) r s h k = h ∙ sym k

    both : (r s : Result B Why) → (first >>= next) r → (first >>= next) s → r ≡ s
    both r s h k =
        let e : h.0 ≡ k.0 = one.same h.0 k.0 h.1 k.1 in
        followed h.0 r s h.2 (subst (λ (v : Result A Why). Follows next v s) (sym e) k.2)

    go_on : (value : Result A Why) → first value → ((answer : Result B Why) → (first >>= next) answer → ⊥) → ⊥
    go_on (Ok v) h none = (each_one v).some (λ answer k. none answer (Ok v, h, k))
    go_on (Err w) h none = none (Err w) (Err w, h, refl)

one_each : {W A : Type 0} (of : W → Meaning A) → ((word : W) → IsOne (of word)) → (words : List W) → IsOne (each of words)
one_each of one [] = one_equal (Ok [])
one_each of one (word ∷ words) = one_chain (of word) _ (one word) (λ value. one_chain (each of words) _ (one_each of one words) (λ values. one_equal (Ok (value ∷ values))))

-- ---- words

one_registry : (word : Text) → IsOne (registry_in word)
one_registry word = one_value (IsRegistry word) why.Number (λ one other h k.
    let e : one.0 ≡ other.0 = one_number word one.0 other.0 h.number.written k.number.written in
    let made : ℕ → RegNo = λ n. record { 0 = n } in
    ap made e)

one_policy : (word : Text) → IsOne (policy_in word)
one_policy word = one_value (λ (policy : PolicyNo). IsSmallNumber word policy.0) why.Number (λ one other h k.
    let e : one.0 ≡ other.0 = one_number word one.0 other.0 h.written k.written in
    let made : ℕ → PolicyNo = λ n. record { 0 = n } in
    ap made e)

one_job : (word : Text) → IsOne (job_in word)
one_job word = one_value (λ (job : JobNo). IsSmallNumber word job.0) why.Number (λ one other h k.
    let e : one.0 ≡ other.0 = one_number word one.0 other.0 h.written k.written in
    let made : ℕ → JobNo = λ n. record { 0 = n } in
    ap made e)

one_revision : (word : Text) → IsOne (revision_in word)
one_revision word = one_value (IsRevision word) why.Number (λ one other h k. one_number word one other h.number.written k.number.written)

one_job_count : (word : Text) → IsOne (job_count_in word)
one_job_count word = one_value (IsJobCount word) why.Number (λ one other h k. one_number word one other h.number.written k.number.written)

one_seconds : (word : Text) → IsOne (seconds_in word)
one_seconds word = one_value (IsSeconds word) why.Number (λ one other h k. one_number word one other h.number.written k.number.written)

one_status : (word : Text) → IsOne (status_in word)
one_status word = one_equal (status_named word)

one_operation : (word : Text) → IsOne (operation_in word)
one_operation word = one_value (IsOperation word) why.Number (λ one other h k. one_number word one other h.number.written k.number.written)

one_small : (word : Text) → IsOne (small_in word)
one_small word = one_value (IsSmallNumber word) why.Number (λ one other h k. one_number word one other h.written k.written)

one_lane : (word : Text) → IsOne (lane_in word)
one_lane word = one_chain (small_in word) _ (one_small word) (λ number. one_equal (lane_numbered number))

one_name : (word : Text) → IsOne (name_in word)
one_name word = one_value (IsNameWord word) why.Name (λ one other h k. h.same ∙ sym k.same)

one_tag : (word : Text) → IsOne (tag_in word)
one_tag word = one_value (IsTagWord word) why.Tag (λ one other h k. h.same ∙ sym k.same)

one_media : (word : Text) → IsOne (media_in word)
one_media word = one_value (IsMedia word) why.Policy (λ one other h k. h.same ∙ sym k.same)

one_layer : (word : Text) → IsOne (layer_in word)
one_layer word = one_value (IsLayerWord word) why.Hex (λ one other h k. spelled_once word one other h.spelled k.spelled)

-- ---- lines

one_image : (words : List Text) → IsOne (image_of words)
one_image (reg ∷ repo ∷ tag ∷ layers) =
    one_chain (registry_in reg) _ (one_registry reg) (λ a. one_chain (name_in repo) _ (one_name repo) (λ b. one_chain (tag_in tag) _ (one_tag tag) (λ d. one_chain (each layer_in layers) _ (one_each layer_in one_layer layers) (λ e. one_equal (Ok (Image a b d e))))))
one_image _ = one_equal (Err why.Count)

one_index : (words : List Text) → IsOne (index_of words)
one_index (reg ∷ repo ∷ tag ∷ children) =
    one_chain (registry_in reg) _ (one_registry reg) (λ a. one_chain (name_in repo) _ (one_name repo) (λ b. one_chain (tag_in tag) _ (one_tag tag) (λ d. one_chain (each tag_in children) _ (one_each tag_in one_tag children) (λ e. one_equal (Ok (Index a b d e))))))
one_index _ = one_equal (Err why.Count)

one_orphan : (words : List Text) → IsOne (orphan_of words)
one_orphan (reg ∷ repo ∷ layers) =
    one_chain (registry_in reg) _ (one_registry reg) (λ a. one_chain (name_in repo) _ (one_name repo) (λ b. one_chain (each layer_in layers) _ (one_each layer_in one_layer layers) (λ d. one_equal (Ok (Orphan a b d)))))
one_orphan _ = one_equal (Err why.Count)

one_manifest : (words : List Text) → IsOne (manifest_of words)
one_manifest (reg ∷ repo ∷ tag ∷ media ∷ first ∷ others) =
    one_chain (registry_in reg) _ (one_registry reg) (λ a. one_chain (name_in repo) _ (one_name repo) (λ b. one_chain (tag_in tag) _ (one_tag tag) (λ d. one_chain (media_in media) _ (one_media media) (λ e. one_equal _))))
one_manifest _ = one_equal (Err why.Count)

one_break : (words : List Text) → IsOne (break_of words)
one_break (reg ∷ repo ∷ honest ∷ stored ∷ []) =
    one_chain (registry_in reg) _ (one_registry reg) (λ a. one_chain (name_in repo) _ (one_name repo) (λ b. one_chain (layer_in honest) _ (one_layer honest) (λ d. one_chain (layer_in stored) _ (one_layer stored) (λ e. one_equal (Ok (Break a b d e))))))
one_break _ = one_equal (Err why.Count)

one_fault : (lands : Bool) (words : List Text) → IsOne (fault_of lands words)
one_fault lands (lane ∷ reg ∷ op ∷ []) =
    one_chain (lane_in lane) _ (one_lane lane) (λ a. one_chain (registry_in reg) _ (one_registry reg) (λ b. one_chain (operation_in op) _ (one_operation op) (λ d. one_equal (Ok (Fault a b d lands)))))
one_fault lands _ = one_equal (Err why.Count)

one_change : (words : List Text) → IsOne (change_of words)
one_change (lane ∷ reg ∷ op ∷ repo ∷ tag ∷ to ∷ []) =
    one_chain (lane_in lane) _ (one_lane lane) (λ a. one_chain (registry_in reg) _ (one_registry reg) (λ b. one_chain (operation_in op) _ (one_operation op) (λ d. one_chain (name_in repo) _ (one_name repo) (λ e. one_chain (tag_in tag) _ (one_tag tag) (λ f. one_chain (tag_in to) _ (one_tag to) (λ g. one_equal (Ok (Change a b d e f g))))))))
one_change _ = one_equal (Err why.Count)

one_jobs : (words : List Text) → IsOne (jobs_of words)
one_jobs (jobs ∷ []) = one_chain (job_count_in jobs) _ (one_job_count jobs) (λ a. one_equal (Ok (Jobs a)))
one_jobs _ = one_equal (Err why.Count)

one_trigger : (words : List Text) → IsOne (trigger_of words)
one_trigger (policy ∷ []) = one_chain (policy_in policy) _ (one_policy policy) (λ a. one_equal (Ok (Event (event.Trigger a))))
one_trigger _ = one_equal (Err why.Count)

one_finish : (words : List Text) → IsOne (finish_of words)
one_finish [] = one_equal (Ok (Event event.Finish))
one_finish _ = one_equal (Err why.Count)

one_tags : (words : List Text) → IsOne (tags_of words)
one_tags (reg ∷ []) = one_chain (registry_in reg) _ (one_registry reg) (λ a. one_equal (Ok (Event (event.Tags a))))
one_tags _ = one_equal (Err why.Count)

one_take : (words : List Text) → IsOne (take_of words)
one_take [] = one_equal (Ok (Event event.Take))
one_take _ = one_equal (Err why.Count)

one_word : (words : List Text) → IsOne (word_of words)
one_word (job ∷ rev ∷ []) = one_chain (job_in job) _ (one_job job) (λ a. one_chain (revision_in rev) _ (one_revision rev) (λ b. one_equal (Ok (Event (event.Word a b)))))
one_word _ = one_equal (Err why.Count)

one_only_job : (words : List Text) → IsOne (only_job words)
one_only_job (job ∷ []) = one_job job
one_only_job _ = one_equal (Err why.Count)

one_only_number : (words : List Text) → IsOne (only_number words)
one_only_number (number ∷ []) = one_small number
one_only_number _ = one_equal (Err why.Count)

one_step : (words : List Text) → IsOne (step_of words)
one_step words = one_chain (only_job words) _ (one_only_job words) (λ a. one_equal (Ok (Event (event.Step a))))

one_stop : (words : List Text) → IsOne (stop_of words)
one_stop words = one_chain (only_job words) _ (one_only_job words) (λ a. one_equal (Ok (Event (event.Stop a))))

one_settle : (words : List Text) → IsOne (settle_of words)
one_settle words = one_chain (only_job words) _ (one_only_job words) (λ a. one_equal (Ok (Event (event.Settle a))))

one_deliver : (words : List Text) → IsOne (deliver_of words)
one_deliver words = one_chain (only_number words) _ (one_only_number words) (λ a. one_equal (Ok (Event (event.Deliver a))))

one_forge : (words : List Text) → IsOne (forge_of words)
one_forge (job ∷ rev ∷ status ∷ []) =
    one_chain (job_in job) _ (one_job job) (λ a. one_chain (revision_in rev) _ (one_revision rev) (λ b. one_chain (status_in status) _ (one_status status) (λ d. one_equal (Ok (Event (event.Forge (record { job = a; rev = b; status = d })))))))
one_forge _ = one_equal (Err why.Count)

one_wait : (words : List Text) → IsOne (wait_of words)
one_wait (seconds ∷ []) = one_chain (seconds_in seconds) _ (one_seconds seconds) (λ a. one_equal (Ok (Event (event.Wait a))))
one_wait _ = one_equal (Err why.Count)

one_sweep : (words : List Text) → IsOne (sweep_of words)
one_sweep words = one_chain (only_number words) _ (one_only_number words) (λ a. one_equal (Ok (Event (event.Sweep a))))

one_row : (words : List Text) → IsOne (row_of words)
one_row words = one_chain (only_job words) _ (one_only_job words) (λ a. one_equal (Ok (Event (event.Row a))))

one_exec : (words : List Text) → IsOne (exec_of words)
one_exec words = one_chain (only_number words) _ (one_only_number words) (λ a. one_equal (Ok (Event (event.Exec (record { 0 = a })))))

one_cause : (words : List Text) → IsOne (cause_of words)
one_cause words = one_chain (only_job words) _ (one_only_job words) (λ a. one_equal (Ok (Event (event.CauseOf a))))

one_arguments : (kind : Kind) (words : List Text) → IsOne (arguments_of kind words)
one_arguments kinds.Image words = one_image words
one_arguments kinds.Index words = one_index words
one_arguments kinds.Orphan words = one_orphan words
one_arguments kinds.Manifest words = one_manifest words
one_arguments kinds.Break words = one_break words
one_arguments kinds.Fault words = one_fault false words
one_arguments kinds.Lands words = one_fault true words
one_arguments kinds.Change words = one_change words
one_arguments kinds.Jobs words = one_jobs words
one_arguments kinds.Trigger words = one_trigger words
one_arguments kinds.Take words = one_take words
one_arguments kinds.Step words = one_step words
one_arguments kinds.Settle words = one_settle words
one_arguments kinds.Stop words = one_stop words
one_arguments kinds.Deliver words = one_deliver words
one_arguments kinds.Forge words = one_forge words
one_arguments kinds.Wait words = one_wait words
one_arguments kinds.Sweep words = one_sweep words
one_arguments kinds.Finish words = one_finish words
one_arguments kinds.Tags words = one_tags words
one_arguments kinds.Row words = one_row words
one_arguments kinds.Exec words = one_exec words
one_arguments kinds.Word words = one_word words
one_arguments kinds.Cause words = one_cause words
one_arguments kinds.Later words = one_equal (Err why.NotYet)

one_placed : (misplaced : Bool) (meaning : Meaning Line) → IsOne meaning → IsOne (unless_misplaced misplaced meaning)
one_placed true meaning one = one_equal (Err why.Order)
one_placed false meaning one = one

one_meaning : (progress : Progress) (words : List Text) → IsOne (meaning_of progress words)
one_meaning progress [] = one_equal (Err why.Word)
one_meaning progress (first ∷ others) = one_chain (kind_in first) _ (one_equal (kind_of first)) (λ kind. one_placed (is_misplaced progress kind) (arguments_of kind others) (one_arguments kind others))

one_where : (read : Bool) (meaning : Meaning (Option Line)) → IsOne meaning → IsOne (where_read read meaning)
one_where true meaning one = one
one_where false meaning one = one_equal (Ok None)

one_line_meaning : (progress : Progress) (line : Text) → IsOne (line_meaning progress line)
one_line_meaning progress line = one_where (is_read line) _ (one_chain (meaning_of progress (words_of line)) _ (one_meaning progress (words_of line)) (λ meant. one_equal (Ok (Some meant))))

-- ---- texts

same_lines : (number : ℕ) (progress : Progress) (lines : List Text) (one other : Lines) → AreRead number progress lines one → AreRead number progress lines other → one ≡ other
same_lines number progress [] one other h k = h ∙ sym k
same_lines number progress (line ∷ lines) one other h k =
    let e : h.0 ≡ k.0 = (one_line_meaning progress line).same h.0 k.0 h.1 k.1 in
    go (λ later a b. same_lines (number + 1) later lines a b) h.0 h.2 (subst (λ (m : Result (Option Line) Why). GoesOn (λ later. AreRead (number + 1) later lines) number progress m other) (sym e) k.2)
  where
    go : ((later : Progress) (a b : Lines) → AreRead (number + 1) later lines a → AreRead (number + 1) later lines b → a ≡ b) → (m : Result (Option Line) Why)
        → GoesOn (λ later. AreRead (number + 1) later lines) number progress m one → GoesOn (λ later. AreRead (number + 1) later lines) number progress m other → one ≡ other
    go ih (Ok None) p q = ih progress one other p q
    go ih (Ok (Some l)) p q = p.2 ∙ ap (with_line number l) (ih (progress_after progress l) p.0 q.0 p.1 q.1) ∙ sym q.2
    go ih (Err why) p q = p ∙ sym q

some_lines : (number : ℕ) (progress : Progress) (lines : List Text) → ((found : Lines) → AreRead number progress lines found → ⊥) → ⊥
some_lines number progress [] none = none nothing refl
some_lines number progress (line ∷ lines) none = (one_line_meaning progress line).some (λ meaning h. go (λ later. some_lines (number + 1) later lines) meaning h)
  where
    go : ((later : Progress) → ((found : Lines) → AreRead (number + 1) later lines found → ⊥) → ⊥) → (meaning : Result (Option Line) Why) → line_meaning progress line meaning → ⊥
    go ih (Ok None) h = ih progress (λ found k. none found (Ok None, h, k))
    go ih (Ok (Some l)) h = ih _ (λ found k. none (with_line number l found) (Ok (Some l), h, (found, k, refl)))
    go ih (Err why) h = none (stopped number why) (Err why, h, refl)

pub same_reading : (text : Text) (one other : Lines) → IsReading text one → IsReading text other → one ≡ other
same_reading text one other h k = same_lines 1 at_start (lines_of text) one other h k

pub some_reading : (text : Text) → ((lines : Lines) → IsReading text lines → ⊥) → ⊥
some_reading text none = some_lines 1 at_start (lines_of text) none
