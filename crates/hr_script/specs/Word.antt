-- What one word of a line stands for, by its kind. (Our own, but for names and tags: OCI
-- Distribution 1.1, "Pulling manifests".)
use Rattle.std.specs.Prelude.{◌≡◌, ◌==◌, ◌<◌, ◌≤◌, ◌^◌, ℕ, if◌then◌else◌, length, Result, Ok, Err}
use Rattle.hr_base.specs.Bytes.{ByteList, Media, Text}
use Rattle.hr_base.specs.declared.number.JobNo.{JobNo}
use Rattle.hr_base.specs.declared.number.PolicyNo.{PolicyNo}
use Rattle.hr_base.specs.declared.number.RegNo.{RegNo}
use Rattle.hr_name.specs.Name.{IsName, RepoName}
use Rattle.hr_name.specs.Tag.{IsTag, TagName}
use Rattle.hr_name.specs.declared.name.TheConstants.{NAME_LIMIT}
use Rattle.hr_text.specs.Escaping.{IsUnescaped}
use Rattle.hr_text.specs.Hexadecimal.{Spells}
use Rattle.hr_text.specs.Number.{IsNumber}
use Rattle.hr_script.specs.Meaning.{Meaning, stands_for, ◌>>=◌}
use Rattle.hr_script.specs.declared.refusal.Why.{Why}
use Rattle.hr_script.specs.declared.refusal.Why.TheVariants as why

-- the word writes this number, which is below 2^32
pub record IsSmallNumber (word : Text) (number : ℕ) : Type 0 where
  pub written : IsNumber word number
  pub small : number < 2 ^ 32

-- the word writes the number of a registry: 1 to 8
pub record IsRegistry (word : Text) (reg : RegNo) : Type 0 where
  pub number : IsSmallNumber word reg.0
  pub some : 1 ≤ reg.0
  pub few : reg.0 ≤ 8

-- the word writes the number of a revision: 0 to 3
pub record IsRevision (word : Text) (rev : ℕ) : Type 0 where
  pub number : IsSmallNumber word rev
  pub few : rev ≤ 3

-- the word writes the number of an operation: 1 or more
pub record IsOperation (word : Text) (op : ℕ) : Type 0 where
  pub number : IsSmallNumber word op
  pub some : 1 ≤ op

-- the word writes how many jobs there may be: 1 to 262,144
pub record IsJobCount (word : Text) (jobs : ℕ) : Type 0 where
  pub number : IsSmallNumber word jobs
  pub some : 1 ≤ jobs
  pub few : jobs ≤ 262144

-- the word writes a number of seconds that may pass: 1,000,000,000 at most
pub record IsSeconds (word : Text) (seconds : ℕ) : Type 0 where
  pub number : IsSmallNumber word seconds
  pub few : seconds ≤ 1000000000

-- the word is this name of a repository, of at most 255 bytes
pub record IsNameWord (word : Text) (name : RepoName) : Type 0 where
  pub same : name ≡ word
  pub named : IsName word
  pub short : length word ≤ NAME_LIMIT

-- the word is this tag
pub record IsTagWord (word : Text) (tag : TagName) : Type 0 where
  pub same : tag ≡ word
  pub tagged : IsTag word

-- the word spells this layer or other blob in lower-case hexadecimal, at least one byte
pub record IsLayerWord (word : Text) (layer : ByteList) : Type 0 where
  pub some : 0 < length layer
  pub spelled : Spells word layer

-- the word is this media type, without a byte that JSON escapes
pub record IsMedia (word : Text) (media : Media) : Type 0 where
  pub same : media ≡ word
  pub unescaped : IsUnescaped word

-- what a word means as the number of a registry
abbrev pub registry_in : Text → Meaning RegNo
registry_in word = stands_for (IsRegistry word) why.Number

-- what a word means as the number of a policy, any below 2^32
abbrev pub policy_in : Text → Meaning PolicyNo
policy_in word = stands_for (λ policy. IsSmallNumber word policy.0) why.Number

-- what a word means as the number of a job, any below 2^32
abbrev pub job_in : Text → Meaning JobNo
job_in word = stands_for (λ job. IsSmallNumber word job.0) why.Number

-- what a word means as the number of a revision
abbrev pub revision_in : Text → Meaning ℕ
revision_in word = stands_for (IsRevision word) why.Number

-- what a word means as the number of an operation
abbrev pub operation_in : Text → Meaning ℕ
operation_in word = stands_for (IsOperation word) why.Number

-- what a word means as a number of jobs
abbrev pub job_count_in : Text → Meaning ℕ
job_count_in word = stands_for (IsJobCount word) why.Number

-- what a word means as a number of seconds
abbrev pub seconds_in : Text → Meaning ℕ
seconds_in word = stands_for (IsSeconds word) why.Number

-- what a word means as any number below 2^32
abbrev pub small_in : Text → Meaning ℕ
small_in word = stands_for (IsSmallNumber word) why.Number

-- the lane of this number: today there is lane 0 alone
abbrev pub lane_numbered : ℕ → Result ℕ Why
lane_numbered number = if number == 0 then Ok 0 else Err why.NotYet

-- what a word means as the number of a lane
abbrev pub lane_in : Text → Meaning ℕ
lane_in word = do
  number ← small_in word
  (λ answer. answer ≡ lane_numbered number)

-- what a word means as the name of a repository
abbrev pub name_in : Text → Meaning RepoName
name_in word = stands_for (IsNameWord word) why.Name

-- what a word means as a tag
abbrev pub tag_in : Text → Meaning TagName
tag_in word = stands_for (IsTagWord word) why.Tag

-- what a word means as a layer or another blob
abbrev pub layer_in : Text → Meaning ByteList
layer_in word = stands_for (IsLayerWord word) why.Hex

-- what a word means as a media type
abbrev pub media_in : Text → Meaning Media
media_in word = stands_for (IsMedia word) why.Policy
