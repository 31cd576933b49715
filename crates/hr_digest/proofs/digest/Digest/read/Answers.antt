use Rattle.hr_digest.proofs.ReadingLemmas.{foreign_answer, hash_answer, no_hash_answer, no_parts_answer}
use Rattle.hr_digest.proofs.digest.Digest.read.Goals as goal

pub returns-in_default : goal.returns-in_default
returns-in_default c =
    let a = no_parts_answer c.args.text.now c.in_default.ensures in
    record { ok = a.ok; shape = a.shape; algorithm = a.algorithm; written = a.written }

pub returns-then-not-is_sha256 : goal.returns-then-not-is_sha256
returns-then-not-is_sha256 c =
    let other = c.if-not-is_sha256.true in
    let a =
    foreign_answer c.args.text.now c.in-Some.algorithm.now c.in-Some.encoded.now c.in-Some.ensures
    (λ e. let is = c.is_sha256.ensures.1 e in cc (is, other)) in
    record { ok = a.ok; shape = a.shape; algorithm = a.algorithm; written = a.written }

pub returns-in-Some-read_hash : goal.returns-in-Some-read_hash
returns-in-Some-read_hash c =
    let read = c.in-Some-read_hash.ensures in
    let a =
    hash_answer c.args.text.now c.in-Some.algorithm.now c.in-Some.encoded.now c.in-Some-read_hash.hash c.in-Some.ensures
    (c.is_sha256.ensures.0 c.if-not-is_sha256.false) read.0 read.1 in
    record { ok = a.ok; shape = a.shape; algorithm = a.algorithm; written = a.written }

pub returns-in-None : goal.returns-in-None
returns-in-None c =
    let a =
    no_hash_answer c.args.text.now c.in-Some.algorithm.now c.in-Some.encoded.now c.in-Some.ensures
    (c.is_sha256.ensures.0 c.if-not-is_sha256.false) c.in-None.ensures in
    record { ok = a.ok; shape = a.shape; algorithm = a.algorithm; written = a.written }
