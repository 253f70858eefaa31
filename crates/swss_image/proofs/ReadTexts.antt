-- what was read so far, in front of what is left
use Rattle.std.proofs.Common.{◌≡◌, ℕ, List, [], ◌∷◌, ◌++◌, Option, Some, None, option_map, refl, ap, ◌∙◌, append_assoc}
use Rattle.serde_json.specs.Data.{Data, Members, member}
use Rattle.serde_json.specs.Find.{as_str}
use Rattle.table_schema.specs.Fields.{Pairs}
use Rattle.swss_image.specs.Texts.{text_before, texts_in}

-- one more was read
pub option_map_push : {X : Type 0} (xs : List X) (x : X) (rest : Option (List X)) → option_map (λ more. (xs ++ x ∷ []) ++ more) rest ≡ option_map (λ more. xs ++ more) (option_map (λ more. x ∷ more) rest)
option_map_push xs x None = refl
option_map_push xs x (Some more) = ap Some (append_assoc xs (x ∷ []) more)

-- one text more
pub texts-more : (texts : Pairs) (name : List ℕ) (value : Data) (members : Members) (text : List ℕ) → Some text ≡ as_str value
    → option_map (λ more. (texts ++ (name, text) ∷ []) ++ more) (texts_in members) ≡ option_map (λ more. texts ++ more) (texts_in (member name value members))
texts-more texts name value members text is =
    option_map_push texts (name, text) (texts_in members)
    ∙ ap (λ v. option_map (λ more. texts ++ more) (text_before name v (texts_in members))) is
