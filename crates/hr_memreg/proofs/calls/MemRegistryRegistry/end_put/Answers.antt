use Rattle.std.proofs.Common.{refl, sym}
use Rattle.std.proofs.lemmas.Result.{err_from_is_err_and}
use Rattle.hr_memreg.specs.Begun.{writing_of}
use Rattle.hr_memreg.proofs.PutLemmas.{ends_done, ends_landed, ends_lost, ends_memory}
use Rattle.hr_memreg.proofs.calls.MemRegistryRegistry.end_put.Goals as goal

pub returns-in-Done : goal.returns-in-Done
returns-in-Done c =
    ends_done c.args.digest.now c.args.self.now c.take_writing-repo.new.self c.store_blob.new.self (writing_of
    c.take_writing-repo.result) c.take_writing-repo.result.number _
    (sym c.take_writing-repo.ensures.value, refl) c.take_writing-repo.ensures.taken c.in-Done.ensures
    c.in_ok-store_blob-in-Done.ensures

pub returns-in_err-store_blob-in-Done : goal.returns-in_err-store_blob-in-Done
returns-in_err-store_blob-in-Done c =
    let p = err_from_is_err_and c.from_residual.result c.from_residual.ensures.1 in
    rw (p.1, p.2)
    (ends_memory c.args.digest.now c.args.self.now c.take_writing-repo.new.self c.store_blob.new.self (writing_of
    c.take_writing-repo.result) c.take_writing-repo.result.number
    c.in_err-store_blob-in-Done.field-0.0 (sym c.take_writing-repo.ensures.value, refl)
    c.take_writing-repo.ensures.taken c.in_err-store_blob-in-Done.ensures)

pub returns-in-Lost : goal.returns-in-Lost
returns-in-Lost c =
    rw c.fail.ensures.value
    (ends_lost c.args.digest.now c.args.self.now c.take_writing-repo.new.self c.fail.new.self (writing_of
    c.take_writing-repo.result) c.take_writing-repo.result.number
    (sym c.take_writing-repo.ensures.value, refl) c.take_writing-repo.ensures.taken c.in-Lost.ensures c.fail.ensures.counted)

pub returns-in_err-store_blob-in-Landed : goal.returns-in_err-store_blob-in-Landed
returns-in_err-store_blob-in-Landed c =
    let p = err_from_is_err_and c.from_residual-in_err-store_blob-in-Landed.result
    c.from_residual-in_err-store_blob-in-Landed.ensures.1 in
    rw (p.1, p.2)
    (ends_memory c.args.digest.now c.args.self.now c.take_writing-repo.new.self c.store_blob-in-Landed.new.self
    (writing_of c.take_writing-repo.result) c.take_writing-repo.result.number
    c.in_err-store_blob-in-Landed.field-0.0 (sym c.take_writing-repo.ensures.value, refl)
    c.take_writing-repo.ensures.taken c.in_err-store_blob-in-Landed.ensures)

pub returns : goal.returns
returns c =
    rw c.fail-in-Landed.ensures.value
    (ends_landed c.args.digest.now c.args.self.now c.take_writing-repo.new.self c.store_blob-in-Landed.new.self
    c.fail-in-Landed.new.self (writing_of c.take_writing-repo.result) c.take_writing-repo.result.number _
    (sym c.take_writing-repo.ensures.value, refl) c.take_writing-repo.ensures.taken c.in-Landed.ensures
    c.in_ok-store_blob-in-Landed.ensures c.fail-in-Landed.ensures.counted)
