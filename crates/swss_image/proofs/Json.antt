-- the JSON that a text is
use Rattle.std.proofs.Common.{◌≡◌, ℕ, Bool, true, false, cond, List, Some, None, refl, ap, ◌∙◌}
use Rattle.std.specs.Str.{IsUtf8, is_utf8}
use Rattle.std.proofs.lemmas.Str.{IsUtf8-from_is_utf8, is_utf8-from_IsUtf8}
use Rattle.serde_json.specs.Data.{Data}
use Rattle.serde_json.specs.Read.{read}
use Rattle.swss_image.specs.Loaded.{json_of}

-- a text that does not read
pub json-none : (text : List ℕ) → (IsUtf8 text → read text ≡ None) → json_of text ≡ None
json-none text h = by (is_utf8 text) refl
  where
    by : (utf8 : Bool) → is_utf8 text ≡ utf8 → cond utf8 (read text) None ≡ None
    by true is = h (IsUtf8-from_is_utf8 text is)
    by false is = refl

-- a text that reads
pub json-some : (text : List ℕ) (value : Data) → IsUtf8 text → read text ≡ Some value → json_of text ≡ Some value
json-some text value utf8 h = ap (λ b. cond b (read text) None) (is_utf8-from_IsUtf8 text utf8) ∙ h
