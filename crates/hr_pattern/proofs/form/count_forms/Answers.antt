use Rattle.std.proofs.Common.{◌≡◌, ◌*◌, ◌∙◌, length, ap}
use Rattle.hr_pattern.proofs.FormLemmas.{product_more, few_more, whole_product}
use Rattle.hr_pattern.proofs.form.count_forms.Goals as goal

pub loop-part-preserved : goal.loop-part-preserved
loop-part-preserved c =
    let few = c.if-count-gt-FORMS_LIMIT.false in
    let times : c.saturating_mul-count.result ≡ c.loop-part.count * length c.part-item.result.choices =
    whole_product c.loop-part.count (length c.view.result.now) _ c.saturating_mul-count.ensures few ∙ ap (λ n. c.loop-part.count * n) (ap length c.view.ensures) in
    record {
      few = few;
      so_far = few_more c.args.parts.now c.loop-part.part-index c.part-item.result _ _ c.loop-part-test.true c.part-item.is times few c.loop-part.invariant.so_far;
      product = product_more c.args.parts.now c.loop-part.part-index c.part-item.result _ _ c.loop-part-test.true c.part-item.is times c.loop-part.invariant.product;
    }
