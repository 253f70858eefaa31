-- what holds of each write that the reader makes holds of each write of an accepted script
use Rattle.std.proofs.Common.{◌≡◌, option_map, ℕ, ◌==◌, Bool, true, false, not, cond, List, [], ◌∷◌, ◌++◌, map, codes, bytes_eq, Option, Some, None, option_and_then, if◌then◌else◌, refl, sym, subst, Ok}
use Rattle.std.specs.List.{AllByRecursion, list_any, starts_with}
use Rattle.std.specs.Str.{is_utf8}
use Rattle.serde_json.specs.Data.{Data, Items, no_items, item, Members, no_members, member}
use Rattle.serde_json.specs.Find.{as_array, as_object, as_str}
use Rattle.serde_json.specs.Read.{read}
use Rattle.table_schema.specs.Fields.{Pairs}
use Rattle.table_schema.specs.KeyText.{key_of}
use Rattle.table_schema.specs.declared.key.Key.{Key}
use Rattle.table_schema.specs.declared.write.Write.{Write}
use Rattle.table_schema.specs.declared.write.Write.TheVariants as write
use Rattle.swss_script.specs.Batch.{batch_of, key_in_word, texts_in, write_before, write_in, write_with, writes_of_items}
use Rattle.swss_script.specs.Fields.{fields_of, set_fields}
use Rattle.swss_types.specs.VrfNames.{vrf_name_of}
use Rattle.swss_types.specs.declared.vrf.Vrf.TheVariants as vrf
use Rattle.swss_script.specs.Line.{word_alone, del_line, del_with, forward_in, is_block, is_name, json_line, line_by, script_line_of, line_with, producer_line, set_line, set_with, show_line, show_of, shown}
use Rattle.swss_script.specs.Lines.{block_of, is_end, line_text, lines_in}
use Rattle.swss_script.specs.Script.{script_of}
use Rattle.swss_script.specs.Sections.{PlacedWrite, line_writes, lines_writes, name_behind, placed, round_behind, script_writes, told, whole_line}
use Rattle.swss_script.specs.Words.{behind_word, words_in}
use Rattle.swss_script.specs.declared.line.Line.{Line}
use Rattle.swss_script.specs.declared.line.Line.TheVariants.{Blank, Head, Producer, Put, Batch, Block, Restart, Settle, Shown, Other}
use Rattle.swss_script.specs.declared.parts.Show.{Show}
use Rattle.swss_script.specs.declared.script.Script.{Script}
use Rattle.swss_script.proofs.PlacedWrites.{writes-by_lines}

-- ---- keys

abbrev OfKey : Option Key → Type 0
OfKey None = Unit {0}
OfKey (Some key) = (text : List ℕ) × (key ≡ key_of text)

key-if : (b : Bool) (text : List ℕ) → OfKey (if b then Some (key_of text) else None)
key-if true text = (text, refl)
key-if false text = tt

key-in_word : (word : List ℕ) → OfKey (key_in_word word)
key-in_word word = key-if (list_any (λ byte. byte == 58) word) word

-- what holds of each Set that the reader makes of a text and fields, and of each Del of a text, holds of each write of a script
module _ (P : Write → Type 0) (set : (text : List ℕ) (fields : Pairs) → P (write.Set (key_of text) (set_fields fields))) (del : (text : List ℕ) → P (write.Del (key_of text))) where
  set-at : (key : Key) (fields : Pairs) → OfKey (Some key) → P (write.Set key (set_fields fields))
  set-at key fields (text, is) = subst (λ k. P (write.Set k (set_fields fields))) (sym is) (set text fields)

  del-at : (key : Key) → OfKey (Some key) → P (write.Del key)
  del-at key (text, is) = subst (λ k. P (write.Del k)) (sym is) (del text)

  -- ---- batches

  abbrev OfWrite : Option Write → Type 0
  OfWrite None = Unit {0}
  OfWrite (Some write) = P write

  abbrev OfBatch : Option (List Write) → Type 0
  OfBatch None = Unit {0}
  OfBatch (Some writes) = AllByRecursion P writes

  write-if : (b : Bool) (x y : Option Write) → OfWrite x → OfWrite y → OfWrite (cond b x y)
  write-if true x y p q = p
  write-if false x y p q = q

  write-with : (operation : Option (List ℕ)) (key : Option Key) (fields : Option Pairs) → OfKey key → OfWrite (write_with operation key fields)
  write-with None key fields is = tt
  write-with (Some operation) None fields is = tt
  write-with (Some operation) (Some key) None is = tt
  write-with (Some operation) (Some key) (Some fields) is = write-if (bytes_eq operation (codes "SET")) _ _ (set-at key fields is) (write-if (bytes_eq operation (codes "DEL")) _ _ (del-at key is) tt)

  write-in : (members : Members) → OfWrite (write_in members)
  write-in no_members = tt
  write-in (member name value no_members) = tt
  write-in (member name value (member other another no_members)) =
      write-if (bytes_eq name (codes "OP")) _ _ (write-with (as_str value) (key_in_word other) (option_and_then texts_in (as_object another)) (key-in_word other))
      (write-if (bytes_eq other (codes "OP")) _ _ (write-with (as_str another) (key_in_word name) (option_and_then texts_in (as_object value)) (key-in_word name)) tt)
  write-in (member name value (member other another (member third it more))) = tt

  write-in_object : (members : Option Members) → OfWrite (option_and_then write_in members)
  write-in_object None = tt
  write-in_object (Some members) = write-in members

  batch-with : (write : Option Write) (writes : Option (List Write)) → OfWrite write → OfBatch writes → OfBatch (write_before write writes)
  batch-with None writes one more = tt
  batch-with (Some write) None one more = tt
  batch-with (Some write) (Some writes) one more = (one, more)

  batch-in : (items : Items) → OfBatch (writes_of_items items)
  batch-in no_items = tt
  batch-in (item element elements) = batch-with (option_and_then write_in (as_object element)) (writes_of_items elements) (write-in_object (as_object element)) (batch-in elements)

  batch-in_array : (items : Option Items) → OfBatch (option_and_then writes_of_items items)
  batch-in_array None = tt
  batch-in_array (Some items) = batch-in items

  batch-in_json : (json : Option Data) → OfBatch (option_and_then (λ j. option_and_then writes_of_items (as_array j)) json)
  batch-in_json None = tt
  batch-in_json (Some json) = batch-in_array (as_array json)

  batch-if : (utf8 : Bool) (batch : Option (List Write)) → OfBatch batch → OfBatch (cond utf8 batch None)
  batch-if true batch is = is
  batch-if false batch is = tt

  batch-of : (text : List ℕ) → OfBatch (batch_of text)
  batch-of text = batch-if (is_utf8 text) _ (batch-in_json (read text))

  batch-of_block : (block : Option (List ℕ)) → OfBatch (option_and_then batch_of block)
  batch-of_block None = tt
  batch-of_block (Some text) = batch-of text

  -- ---- lines

  abbrev OfLine : Line → Type 0
  OfLine (Put write) = P write
  OfLine (Batch writes) = OfBatch writes
  OfLine line = Unit {0}

  line-if : (b : Bool) (x y : Line) → OfLine x → OfLine y → OfLine (cond b x y)
  line-if true x y p q = p
  line-if false x y p q = q

  line-producer : (words : List (List ℕ)) → OfLine (producer_line words)
  line-producer [] = tt
  line-producer (word ∷ []) = line-if (is_name word) _ _ tt tt
  line-producer (word ∷ other ∷ words) = tt

  line-set_with : (key : Option Key) (fields : Option Pairs) → OfKey key → OfLine (set_with key fields)
  line-set_with None fields is = tt
  line-set_with (Some key) None is = tt
  line-set_with (Some key) (Some fields) is = set-at key fields is

  line-set : (words : List (List ℕ)) → OfLine (set_line words)
  line-set [] = tt
  line-set (word ∷ words) = line-set_with (key_in_word word) (fields_of words) (key-in_word word)

  line-del_with : (key : Option Key) → OfKey key → OfLine (del_with key)
  line-del_with None is = tt
  line-del_with (Some key) is = del-at key is

  line-del : (words : List (List ℕ)) → OfLine (del_line words)
  line-del [] = tt
  line-del (word ∷ []) = line-del_with (key_in_word word) (key-in_word word)
  line-del (word ∷ other ∷ words) = tt

  line-json : (words : List (List ℕ)) (text : List ℕ) → OfLine (json_line words text)
  line-json [] text = tt
  line-json (word ∷ words) text = batch-of text

  line-alone : (line : Line) (words : List (List ℕ)) → OfLine line → OfLine (word_alone line words)
  line-alone line [] is = is
  line-alone line (word ∷ words) is = tt

  line-shown : (show : Option Show) → OfLine (shown show)
  line-shown None = tt
  line-shown (Some what) = tt

  line-show : (words : List (List ℕ)) → OfLine (show_line words)
  line-show [] = tt
  line-show (word ∷ []) = line-shown (show_of word)
  line-show (word ∷ address ∷ []) = line-shown (forward_in word (Some vrf.Default) address)
  line-show (word ∷ router ∷ address ∷ []) = line-shown (forward_in word (option_map vrf.Named (vrf_name_of router)) address)
  line-show (word ∷ router ∷ address ∷ other ∷ words) = tt

  line-by : (first : List ℕ) (others : List (List ℕ)) (behind : List ℕ) → OfLine (line_by first others behind)
  line-by first others behind =
      line-if (starts_with ◌==◌ first (codes "#")) _ _ tt
      (line-if (bytes_eq first (codes "port")) _ _ tt
      (line-if (bytes_eq first (codes "chip")) _ _ tt
      (line-if (bytes_eq first (codes "fail")) _ _ tt
      (line-if (bytes_eq first (codes "image")) _ _ tt
      (line-if (bytes_eq first (codes "producer")) _ _ (line-producer others)
      (line-if (bytes_eq first (codes "set")) _ _ (line-set others)
      (line-if (bytes_eq first (codes "del")) _ _ (line-del others)
      (line-if (bytes_eq first (codes "json")) _ _ (line-json others behind)
      (line-if (bytes_eq first (codes "restart")) _ _ (line-alone Restart others tt)
      (line-if (bytes_eq first (codes "settle")) _ _ (line-alone Settle others tt)
      (line-if (bytes_eq first (codes "show")) _ _ (line-show others) tt)))))))))))

  line-with : (words : List (List ℕ)) (behind : List ℕ) → OfLine (line_with words behind)
  line-with [] behind = tt
  line-with (first ∷ others) behind = line-by first others behind

  line-of : (text : List ℕ) → OfLine (script_line_of text)
  line-of text = line-with (words_in text) (behind_word text)

  line-whole : (line : Line) (lines : List (List ℕ)) → OfLine line → OfLine (whole_line line lines)
  line-whole line lines is = line-if (is_block line) _ _ (batch-of_block (block_of lines)) is

  lines-told : (block : Bool) (lines : List (List ℕ)) → AllByRecursion OfLine (told block lines)
  lines-told true [] = tt
  lines-told false [] = tt
  lines-told true (line ∷ lines) = lines-told (not (is_end (line_text line))) lines
  lines-told false (line ∷ lines) = (line-whole (script_line_of (line_text line)) lines (line-of (line_text line)), lines-told (is_block (script_line_of (line_text line))) lines)

  -- ---- the writes of lines

  abbrev OfPlaced : PlacedWrite → Type 0
  OfPlaced p = P p.write

  all-append : (xs ys : List PlacedWrite) → AllByRecursion OfPlaced xs → AllByRecursion OfPlaced ys → AllByRecursion OfPlaced (xs ++ ys)
  all-append [] ys one more = more
  all-append (x ∷ xs) ys (is, one) more = (is, all-append xs ys one more)

  all-placed : (round : ℕ) (name : List ℕ) (writes : List Write) → AllByRecursion P writes → AllByRecursion OfPlaced (map (placed round name) writes)
  all-placed round name [] all = tt
  all-placed round name (write ∷ writes) (is, all) = (is, all-placed round name writes all)

  all-line : (round : ℕ) (name : List ℕ) (line : Line) → OfLine line → AllByRecursion OfPlaced (line_writes round name line)
  all-line round name Blank is = tt
  all-line round name (Head line) is = tt
  all-line round name (Producer other) is = tt
  all-line round name (Put write) is = (is, tt)
  all-line round name (Batch None) is = tt
  all-line round name (Batch (Some writes)) is = all-placed round name writes is
  all-line round name Block is = tt
  all-line round name Restart is = tt
  all-line round name Settle is = tt
  all-line round name (Shown what) is = tt
  all-line round name Other is = tt

  all-lines : (round : ℕ) (name : List ℕ) (lines : List Line) → AllByRecursion OfLine lines → AllByRecursion OfPlaced (lines_writes round name lines)
  all-lines round name [] all = tt
  all-lines round name (line ∷ lines) (is, all) =
      all-append (line_writes round name line) _ (all-line round name line is) (all-lines (round_behind round line) (name_behind name line) lines all)

  -- each write that an accepted script has
  pub each-write : (bytes : List ℕ) (script : Script) → script_of bytes ≡ Ok script → AllByRecursion (λ p. P p.write) (script_writes script)
  each-write bytes script is = subst (AllByRecursion OfPlaced) (sym (writes-by_lines bytes script is)) (all-lines 1 [] (told false (lines_in bytes)) (lines-told false (lines_in bytes)))
