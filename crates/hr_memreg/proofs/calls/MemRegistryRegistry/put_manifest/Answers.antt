use Rattle.std.proofs.Common.{refl}
use Rattle.std.proofs.lemmas.Result.{err_from_is_err_and}
use Rattle.hr_memreg.specs.declared.standing.Fate.TheVariants.{Done, Lost, Landed}
use Rattle.hr_memreg.proofs.PutLemmas.{fated, puts_done, puts_landed, puts_long, puts_lost, puts_memory, puts_stuck}
use Rattle.hr_memreg.proofs.calls.MemRegistryRegistry.put_manifest.Goals as goal

pub returns-in_err-operate : goal.returns-in_err-operate
returns-in_err-operate c =
    let p = err_from_is_err_and c.from_residual.result c.from_residual.ensures.1 in
    rw (p.1, p.2)
    (puts_stuck c.args.repo.now c.args.reference.now c.args.media.now c.args.bytes.now c.args.self.now
    c.operate.new.self c.in_err-operate.field-0.0 c.in_err-operate.ensures)

pub returns-then-len-gt-MANIFEST_LIMIT : goal.returns-then-len-gt-MANIFEST_LIMIT
returns-then-len-gt-MANIFEST_LIMIT c =
    puts_long c.args.repo.now c.args.reference.now c.args.media.now c.args.bytes.now c.args.self.now c.operate.new.self _
    (fated c.args.self.now c.operate.new.self _ Done c.in-Done.is c.in_ok-operate.ensures) refl c.if-len-gt-MANIFEST_LIMIT.true

pub returns-in_err-store_manifest-in-Done : goal.returns-in_err-store_manifest-in-Done
returns-in_err-store_manifest-in-Done c =
    let p = err_from_is_err_and c.from_residual-in_err-store_manifest-in-Done.result
    c.from_residual-in_err-store_manifest-in-Done.ensures.1 in
    rw (p.1, p.2)
    (puts_memory c.args.repo.now c.args.reference.now c.args.media.now c.args.bytes.now c.args.self.now
    c.operate.new.self c.store_manifest.new.self c.in_err-store_manifest-in-Done.field-0.0 c.in_ok-operate.ensures.0
    c.in_err-store_manifest-in-Done.ensures)

pub returns-in_ok-store_manifest-in-Done : goal.returns-in_ok-store_manifest-in-Done
returns-in_ok-store_manifest-in-Done c =
    puts_done c.args.repo.now c.args.reference.now c.args.media.now c.args.bytes.now c.args.self.now
    c.operate.new.self c.store_manifest.new.self _
    (fated c.args.self.now c.operate.new.self _ Done c.in-Done.is c.in_ok-operate.ensures) c.if-len-gt-MANIFEST_LIMIT.false
    c.in_ok-store_manifest-in-Done.ensures

pub returns-in-Lost : goal.returns-in-Lost
returns-in-Lost c =
    rw c.fail.ensures.value
    (puts_lost c.args.repo.now c.args.reference.now c.args.media.now c.args.bytes.now c.args.self.now
    c.operate.new.self c.fail.new.self
    (fated c.args.self.now c.operate.new.self _ Lost c.in-Lost.is c.in_ok-operate.ensures) c.fail.ensures.counted)

pub returns-in_err-store_manifest-in-Landed : goal.returns-in_err-store_manifest-in-Landed
returns-in_err-store_manifest-in-Landed c =
    let p = err_from_is_err_and c.from_residual-in_err-store_manifest-in-Landed.result
    c.from_residual-in_err-store_manifest-in-Landed.ensures.1 in
    rw (p.1, p.2)
    (puts_memory c.args.repo.now c.args.reference.now c.args.media.now c.args.bytes.now c.args.self.now
    c.operate.new.self c.store_manifest-in-Landed.new.self c.in_err-store_manifest-in-Landed.field-0.0
    c.in_ok-operate.ensures.0
    c.in_err-store_manifest-in-Landed.ensures)

pub returns-in_ok-store_manifest-in-Landed : goal.returns-in_ok-store_manifest-in-Landed
returns-in_ok-store_manifest-in-Landed c =
    rw c.fail-in-Landed.ensures.value
    (puts_landed c.args.repo.now c.args.reference.now c.args.media.now c.args.bytes.now c.args.self.now
    c.operate.new.self c.store_manifest-in-Landed.new.self c.fail-in-Landed.new.self _
    (fated c.args.self.now c.operate.new.self _ Landed c.in-Landed.is c.in_ok-operate.ensures)
    c.in_ok-store_manifest-in-Landed.ensures c.fail-in-Landed.ensures.counted)
