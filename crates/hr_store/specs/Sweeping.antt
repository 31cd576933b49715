-- What a sweep drops: the ended executions of each policy, but the newest of them. (Our own.)
use Rattle.std.specs.Prelude.{◌≡◌, ℕ, ◌+◌, nat_eq, nat_le, Bool, ◌&&◌, if◌then◌else◌, List, [], ◌∷◌, length, Some}
use Rattle.std.specs.List.{count_by}
use Rattle.indexmap.specs.IndexMap.{IndexMap, get}
use Rattle.hr_store.specs.Execution.{ExecState, has_ended}
use Rattle.hr_store.specs.Store.{StoreState}

-- an execution of the policy that has ended
abbrev pub is_ended_of : ℕ → ExecState → Bool
is_ended_of policy exec = nat_eq exec.policy.0 policy && has_ended exec

-- how many executions of the policy have ended
abbrev pub ended_of : ℕ → List ExecState → ℕ
ended_of policy execs = count_by (is_ended_of policy) execs

-- an execution is dropped: it has ended, and so have as many newer ones of its policy as are kept
abbrev pub is_dropped : ℕ → ExecState → List ExecState → Bool
is_dropped keep exec newer = has_ended exec && nat_le keep (ended_of exec.policy.0 newer)

-- the executions that are left, the newest last
abbrev pub kept_by : ℕ → List ExecState → List ExecState
kept_by keep [] = []
kept_by keep (exec ∷ newer) =
    if is_dropped keep exec newer then kept_by keep newer else exec ∷ kept_by keep newer

-- the ended executions of each policy are dropped but for the newest ones, and counted
pub record SweepsEnded (store : StoreState) (keep count : ℕ) (after : StoreState) : Type 0 where
  pub after_is : after ≡ record store { kept = kept_by keep store.kept }
  pub count_is : count + length after.kept ≡ length store.kept

-- an execution is asked whether it is dropped, and counted: the counts of policies are those of the
-- newer ones
pub record AsksAndCounts {S : Type 0} (exec : ExecState) (keep : ℕ) (old : IndexMap ℕ ℕ S)
    (answer : Bool) (new : IndexMap ℕ ℕ S) : Type 0 where
  pub newer : ℕ
  pub were : get nat_eq old exec.policy.0 ≡ Some newer
  pub answer_is : answer ≡ has_ended exec && nat_le keep newer
  pub counted : (policy : ℕ) → get nat_eq new policy
      ≡ (if has_ended exec && nat_eq exec.policy.0 policy then Some (newer + 1) else get nat_eq old policy)
