use Rattle.serde_json.specs.View.{view}
use Rattle.swss_image.proofs.Images.{written-back, written-text}
use Rattle.swss_image.proofs.Results.{if_ok-both}
use Rattle.swss_image.proofs.saved.save.Goals as goal

pub returns-clause-text : goal.returns-clause-text
returns-clause-text c =
    if_ok-both c.write_image.result
    (λ bytes text utf8. written-text c.args.rows.now (view c.in_ok-image.image) bytes.items c.in_ok-image.ensures.value text)
    c.write_image.ensures.text c.write_image.ensures.utf8

pub returns-clause-loads : goal.returns-clause-loads
returns-clause-loads c =
    if_ok-both c.write_image.result
    (λ bytes utf8 back whole. written-back c.args.rows.now (view c.in_ok-image.image) bytes.items c.in_ok-image.ensures.value utf8 back whole.0 whole.1 c.in_ok-image.ensures.named c.in_ok-image.ensures.rising)
    c.write_image.ensures.utf8 c.write_image.ensures.reads_back
