use Rattle.std.proofs.Common.{◌++◌, ◌∷◌, [], option_map, string_bytes, ap, sym, ◌∙◌}
use Rattle.serde_json.specs.View.{members_view, view}
use Rattle.swss_image.specs.Texts.{texts_in}
use Rattle.swss_image.proofs.ReadTexts.{texts-more}
use Rattle.swss_image.proofs.texts.read_texts.Goals as goal

pub loop-name-preserved : goal.loop-name-preserved
loop-name-preserved c =
    let left = texts_in (members_view c.next.new.self) in
    let copied = ap (λ n. c.loop-name.texts.items ++ (n, c.in-Some-2.text) ∷ []) (c.in_ok-from_str.ensures ∙ c.as_str.ensures.value) in
    ap (λ ts. option_map (λ m. ts ++ m) left) (c.in_ok-push.ensures.items ∙ copied)
    ∙ texts-more c.loop-name.texts.items (string_bytes c.in-Some.name) (view c.in-Some.value) (members_view c.next.new.self) c.in-Some-2.text (sym c.in-Some-2.is ∙ c.in_ok-text.ensures)
    ∙ ap (λ es. option_map (λ m. c.loop-name.texts.items ++ m) (texts_in (members_view es))) (sym c.in-Some.ensures.steps)
    ∙ c.loop-name.invariant
