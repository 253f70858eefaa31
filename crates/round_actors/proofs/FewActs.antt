-- An accepted script has few acts: a line has no more than the bytes of it and of its block, and one.
use Rattle.std.proofs.Common.{◌≡◌, ℕ, suc, ◌+◌, ◌-◌, ◌*◌, ◌<◌, ◌≤◌, ◌==◌, ◌^◌, nat_lt, Bool, true, false, cond, not, List, [], ◌∷◌, ◌++◌, length, map, codes, bytes_eq, Option, Some, None, option_map, option_and_then, Result, Ok, Err, refl, ap, subst, arith, length-append, length-drop, length-take}
use Rattle.std.specs.List.{AllByRecursion, position, position_or_len, starts_with}
use Rattle.std.specs.Str.{is_utf8}
use Rattle.std.proofs.lemmas.Bool.{ltb-false}
use Rattle.std.proofs.lemmas.List.{length-map}
use Rattle.serde_json.specs.Data.{Data, Items, item, no_items}
use Rattle.serde_json.specs.Events.{items_len}
use Rattle.serde_json.specs.Find.{as_array, as_object}
use Rattle.serde_json.specs.Read.{read}
use Rattle.table_schema.specs.Fields.{Pairs}
use Rattle.table_schema.specs.declared.key.Key.{Key}
use Rattle.table_schema.specs.declared.write.Write.{Write}
use Rattle.swss_script.specs.Batch.{batch_of, key_in_word, write_before, write_in, writes_of_items}
use Rattle.swss_script.specs.Fields.{fields_of}
use Rattle.swss_types.specs.VrfNames.{vrf_name_of}
use Rattle.swss_types.specs.declared.vrf.Vrf.TheVariants as vrf
use Rattle.swss_script.specs.Line.{word_alone, del_line, del_with, forward_in, is_block, is_name, json_line, line_by, line_with, producer_line, script_line_of, set_line, set_with, show_line, show_of, shown}
use Rattle.swss_script.specs.Lines.{block_of, ends_in, is_end, is_too_long, line_text, lines_in, text_of, with_byte, without_last, without_return}
use Rattle.swss_script.specs.Script.{draft_step, draft_with_line, ended_in, in_block, in_section, new_draft, producer_named, round_settled, script_at, script_from, script_of, section_begun, step, with_block, with_text}
use Rattle.swss_script.specs.Words.{behind_word, is_blank, from_word, words_in}
use Rattle.swss_script.specs.declared.draft.Draft.{Draft}
use Rattle.swss_script.specs.declared.draft.Place.{Place}
use Rattle.swss_script.specs.declared.draft.Place.TheVariants as place
use Rattle.swss_script.specs.declared.line.Line.{Line}
use Rattle.swss_script.specs.declared.line.Line.TheVariants.{Blank, Head, Producer, Put, Batch, Block, Restart, Settle, Shown, Other}
use Rattle.swss_script.specs.declared.parts.Act.{Act}
use Rattle.swss_script.specs.declared.parts.Act.TheVariants as act
use Rattle.swss_script.specs.declared.parts.Round.{Round}
use Rattle.swss_script.specs.declared.parts.Show.{Show}
use Rattle.swss_script.specs.declared.refused.Refused.{Refused}
use Rattle.swss_script.specs.declared.refused.Why.{Why}
use Rattle.swss_script.specs.declared.refused.Why.TheVariants as why
use Rattle.swss_script.specs.declared.script.Script.{Script}
use Rattle.swss_script.proofs.FewWrites.{few-lines}
use Rattle.swss_script.proofs.PlacedWrites.{IsStill, accepted, same-script, steps-if, still-in_head, still-shown}
use Rattle.swss_script.proofs.Steps.{same-ok, with_producer}
use Rattle.round_actors.specs.Round.{number_of_acts}
use Rattle.round_actors.proofs.ByProducer.{number_of_acts-last}
use Rattle.round_actors.proofs.FewItems.{AreFew, IsDataFew, read-few}

-- ---- batches

abbrev HasFew : ℕ → Option (List Write) → Type 0
HasFew n None = Unit {0}
HasFew n (Some writes) = length writes ≤ n

before-few : (write : Option Write) (writes : Option (List Write)) (n : ℕ) → HasFew n writes → HasFew (suc n) (write_before write writes)
before-few None writes n few = tt
before-few (Some write) None n few = tt
before-few (Some write) (Some writes) n few = omega (arith, few)

items-few : (ds : Items) → HasFew (items_len ds) (writes_of_items ds)
items-few no_items = omega arith
items-few (item d ds) = before-few (option_and_then write_in (as_object d)) (writes_of_items ds) (items_len ds) (items-few ds)

few-within : (m n : ℕ) (writes : Option (List Write)) → m ≤ n → HasFew m writes → HasFew n writes
few-within m n None within few = tt
few-within m n (Some writes) within few = omega (arith, within, few)

list-few : (n : ℕ) (ds : Option Items) → AreFew n ds → HasFew n (option_and_then writes_of_items ds)
list-few n None few = tt
list-few n (Some ds) few = few-within (items_len ds) n (writes_of_items ds) few (items-few ds)

json-few : (n : ℕ) (json : Option Data) → IsDataFew n json → HasFew n (option_and_then (λ j. option_and_then writes_of_items (as_array j)) json)
json-few n None few = tt
json-few n (Some json) few = list-few n (as_array json) few

batch-few : (text : List ℕ) → HasFew (length text + 1) (batch_of text)
batch-few text = by (is_utf8 text) (option_and_then (λ j. option_and_then writes_of_items (as_array j)) (read text)) (json-few (length text + 1) (read text) (read-few text))
  where
    by : (utf8 : Bool) (batch : Option (List Write)) → HasFew (length text + 1) batch → HasFew (length text + 1) (cond utf8 batch None)
    by true batch few = few
    by false batch few = tt

-- ---- what a line says

-- where it is a batch, it has few writes
abbrev IsFewLine : ℕ → Line → Type 0
IsFewLine n (Batch writes) = HasFew n writes
IsFewLine n line = Unit {0}

module _ (n : ℕ) where
  line-if : (b : Bool) (x y : Line) → IsFewLine n x → IsFewLine n y → IsFewLine n (cond b x y)
  line-if true x y p q = p
  line-if false x y p q = q

  line-producer : (words : List (List ℕ)) → IsFewLine n (producer_line words)
  line-producer [] = tt
  line-producer (word ∷ []) = line-if (is_name word) _ _ tt tt
  line-producer (word ∷ other ∷ words) = tt

  line-set_with : (key : Option Key) (fields : Option Pairs) → IsFewLine n (set_with key fields)
  line-set_with None fields = tt
  line-set_with (Some key) None = tt
  line-set_with (Some key) (Some fields) = tt

  line-set : (words : List (List ℕ)) → IsFewLine n (set_line words)
  line-set [] = tt
  line-set (word ∷ words) = line-set_with (key_in_word word) (fields_of words)

  line-del_with : (key : Option Key) → IsFewLine n (del_with key)
  line-del_with None = tt
  line-del_with (Some key) = tt

  line-del : (words : List (List ℕ)) → IsFewLine n (del_line words)
  line-del [] = tt
  line-del (word ∷ []) = line-del_with (key_in_word word)
  line-del (word ∷ other ∷ words) = tt

  line-json : (words : List (List ℕ)) (text : List ℕ) → length text + 1 ≤ n → IsFewLine n (json_line words text)
  line-json [] text within = tt
  line-json (word ∷ words) text within = few-within (length text + 1) n (batch_of text) within (batch-few text)

  line-alone : (line : Line) (words : List (List ℕ)) → IsFewLine n line → IsFewLine n (word_alone line words)
  line-alone line [] few = few
  line-alone line (word ∷ words) few = tt

  line-shown : (what : Option Show) → IsFewLine n (shown what)
  line-shown None = tt
  line-shown (Some what) = tt

  line-show : (words : List (List ℕ)) → IsFewLine n (show_line words)
  line-show [] = tt
  line-show (word ∷ []) = line-shown (show_of word)
  line-show (word ∷ address ∷ []) = line-shown (forward_in word (Some vrf.Default) address)
  line-show (word ∷ router ∷ address ∷ []) = line-shown (forward_in word (option_map vrf.Named (vrf_name_of router)) address)
  line-show (word ∷ router ∷ address ∷ other ∷ words) = tt

  line-by : (first : List ℕ) (others : List (List ℕ)) (behind : List ℕ) → length behind + 1 ≤ n → IsFewLine n (line_by first others behind)
  line-by first others behind within =
      line-if (starts_with ◌==◌ first (codes "#")) _ _ tt
      (line-if (bytes_eq first (codes "port")) _ _ tt
      (line-if (bytes_eq first (codes "chip")) _ _ tt
      (line-if (bytes_eq first (codes "fail")) _ _ tt
      (line-if (bytes_eq first (codes "image")) _ _ tt
      (line-if (bytes_eq first (codes "producer")) _ _ (line-producer others)
      (line-if (bytes_eq first (codes "set")) _ _ (line-set others)
      (line-if (bytes_eq first (codes "del")) _ _ (line-del others)
      (line-if (bytes_eq first (codes "json")) _ _ (line-json others behind within)
      (line-if (bytes_eq first (codes "restart")) _ _ (line-alone Restart others tt)
      (line-if (bytes_eq first (codes "settle")) _ _ (line-alone Settle others tt)
      (line-if (bytes_eq first (codes "show")) _ _ (line-show others) tt)))))))))))

  line-with : (words : List (List ℕ)) (behind : List ℕ) → length behind + 1 ≤ n → IsFewLine n (line_with words behind)
  line-with [] behind within = tt
  line-with (first ∷ others) behind within = line-by first others behind within

behind-short : (text : List ℕ) → length (behind_word text) ≤ length text
behind-short text =
    let first = length-drop (position_or_len (λ byte. not (is_blank byte)) text) text in
    let second = length-drop (position_or_len is_blank (from_word text)) (from_word text) in
    omega (arith, first, second)

line-of : (text : List ℕ) → IsFewLine (length text + 1) (script_line_of text)
line-of text = line-with (length text + 1) (words_in text) (behind_word text) (let short = behind-short text in omega (arith, short))

-- ---- how many bytes lines have

total : List (List ℕ) → ℕ
total [] = 0
total (line ∷ lines) = length line + total lines

total-lines : (bytes : List ℕ) → total (lines_in bytes) ≡ length bytes
unfolding total
total-lines [] = refl
total-lines (byte ∷ bytes) = by (byte == 10) (lines_in bytes) (total-lines bytes)
  where
    by : (newline : Bool) (lines : List (List ℕ)) → total lines ≡ length bytes → total (cond newline ((byte ∷ []) ∷ lines) (with_byte byte lines)) ≡ suc (length bytes)
    by true lines same = omega (arith, same)
    by false [] same = omega (arith, same)
    by false (line ∷ lines) same = omega (arith, same)

-- a text is no longer than the lines before its end
abbrev IsWithin : ℕ → Option (List ℕ) → Type 0
IsWithin n None = Unit {0}
IsWithin n (Some text) = length text ≤ n

block-within : (lines : List (List ℕ)) → IsWithin (total lines) (block_of lines)
unfolding total
block-within [] = tt
block-within (line ∷ lines) = by (is_end (line_text line)) (block_of lines) (block-within lines)
  where
    by : (end : Bool) (block : Option (List ℕ)) → IsWithin (total lines) block → IsWithin (length line + total lines) (cond end (Some []) (option_map (λ text. line ++ text) block))
    by true block within = omega arith
    by false None within = tt
    by false (Some text) within = omega (arith, within, length-append line text)

last-short : (text : List ℕ) → length (without_last text) ≤ length text
last-short text = let short = length-take (length text - 1) text in omega (arith, short)

text-short : (line : List ℕ) → length (line_text line) ≤ length line
text-short line = by (ends_in 10 line) (returned (ends_in 13 (without_last line)))
  where
    returned : (b : Bool) → length (cond b (without_last (without_last line)) (without_last line)) ≤ length line
    returned true = let one = last-short line in let two = last-short (without_last line) in omega (arith, one, two)
    returned false = last-short line

    by : (b : Bool) → length (without_return (without_last line)) ≤ length line → length (cond b (without_return (without_last line)) line) ≤ length line
    by true short = short
    by false short = omega arith

-- ---- how many acts a draft has

pub acts_in : List Round → ℕ
acts_in [] = 0
acts_in (round ∷ rounds) = number_of_acts round.sections + acts_in rounds

acts_in-last : (rounds : List Round) (r : Round) → acts_in (rounds ++ r ∷ []) ≡ acts_in rounds + number_of_acts r.sections
unfolding acts_in
acts_in-last [] r = omega arith
acts_in-last (x ∷ rounds) r = let rest = acts_in-last rounds r in omega (arith, rest)

abbrev draft_acts : Draft → ℕ
draft_acts d = acts_in d.script.rounds + (number_of_acts d.sections + length d.acts)

-- at most so many acts more
abbrev AddsFew : ℕ → Draft → Draft → Type 0
AddsFew n d e = draft_acts e ≤ draft_acts d + n

acts-ended : (p : Place) (d : Draft) → draft_acts (ended_in p d) ≡ draft_acts d
acts-ended place.Head d = refl
acts-ended (place.Section producer) d = let last = number_of_acts-last d.sections (record { producer = producer; acts = d.acts }) in omega (arith, last)
acts-ended place.Settled d = let last = acts_in-last d.script.rounds (record { sections = d.sections; shows = d.shows }) in omega (arith, last)

-- ---- one line

adds-to : (n : ℕ) (d middle e : Draft) → draft_acts middle ≤ draft_acts d + n → middle ≡ e → AddsFew n d e
adds-to n d middle e few is = subst (AddsFew n d) is few

adds-still : (n : ℕ) (d e : Draft) → IsStill d e → AddsFew n d e
adds-still n d e still =
    let rounds = ap acts_in still.rounds in
    let sections = ap number_of_acts still.sections in
    let acts = ap length still.acts in
    omega (arith, rounds, sections, acts)

adds-ended : (n : ℕ) (d e : Draft) (p next : Place) → record (ended_in p d) { place = next } ≡ e → AddsFew n d e
adds-ended n d e p next is = adds-to n d (record (ended_in p d) { place = next }) e (let same = acts-ended p d in omega (arith, same)) is

adds-acts : (n : ℕ) (p : Place) (d e : Draft) (acts : List Act) → length acts ≤ n → in_section p d acts ≡ Ok e → AddsFew n d e
adds-acts n (place.Section producer) d e acts few h = adds-to n d (record d { acts = d.acts ++ acts }) e (let both = length-append d.acts acts in omega (arith, both, few)) (same-ok _ _ h)
adds-acts n place.Head d e acts few h = cc
adds-acts n place.Settled d e acts few h = cc

adds-named : (n : ℕ) (d e : Draft) (name : List ℕ) (at : Option ℕ) → producer_named d name at ≡ Ok e → AddsFew n d e
adds-named n d e name (Some at) h = adds-ended n d e d.place (place.Section (at + 1)) (same-ok _ _ h)
adds-named n d e name None h = by (nat_lt (length d.script.producers) 4) h
  where
    by : (fits : Bool) → cond fits (Ok (section_begun (with_producer d name) (length d.script.producers + 1))) (Err why.TooManyProducers) ≡ Ok e → AddsFew n d e
    by true h = adds-ended n (with_producer d name) e d.place (place.Section (length d.script.producers + 1)) (same-ok _ _ h)
    by false h = cc

adds-line : (n : ℕ) (d e : Draft) (line : Line) → 0 < n → IsFewLine n line → draft_with_line d line ≡ Ok e → AddsFew n d e
adds-line n d e Blank some few h = adds-to n d d e (omega arith) (same-ok _ _ h)
adds-line n d e (Head line) some few h = adds-still n d e (still-in_head d.place d e line h)
adds-line n d e (Producer name) some few h = adds-named n d e name (position (bytes_eq name) d.script.producers) h
adds-line n d e (Put write) some few h = adds-acts n d.place d e (act.Write write ∷ []) (omega (arith, some)) h
adds-line n d e (Batch (Some writes)) some few h = adds-acts n d.place d e (map act.Write writes) (let same = length-map writes act.Write in omega (arith, same, few)) h
adds-line n d e (Batch None) some few h = cc
adds-line n d e Block some few h = cc
adds-line n d e Restart some few h = adds-acts n d.place d e (act.Restart ∷ []) (omega (arith, some)) h
adds-line n d e Settle some few h = adds-ended n d e d.place place.Settled (same-ok _ _ h)
adds-line n d e (Shown what) some few h = adds-still n d e (still-shown d.place d e what h)
adds-line n d e Other some few h = cc

-- ---- a line with those behind it

line-within : (m n : ℕ) (line : Line) → m ≤ n → IsFewLine m line → IsFewLine n line
line-within m n Blank within few = tt
line-within m n (Head line) within few = tt
line-within m n (Producer name) within few = tt
line-within m n (Put write) within few = tt
line-within m n (Batch writes) within few = few-within m n writes within few
line-within m n Block within few = tt
line-within m n Restart within few = tt
line-within m n Settle within few = tt
line-within m n (Shown what) within few = tt
line-within m n Other within few = tt

-- a block: the batch of its lines
adds-block : (n : ℕ) (d e : Draft) (rest : List (List ℕ)) → total rest + 1 ≤ n → with_block d rest ≡ Ok e → AddsFew n d e
adds-block n d e rest within h = by (draft_with_line d (Batch (option_and_then batch_of (block_of rest)))) (λ f is. adds-line n d f (Batch (option_and_then batch_of (block_of rest))) (omega (arith, within)) (block-few (block_of rest) (block-within rest)) is) h
  where
    block-few : (block : Option (List ℕ)) → IsWithin (total rest) block → HasFew n (option_and_then batch_of block)
    block-few None short = tt
    block-few (Some text) short = few-within (length text + 1) n (batch_of text) (omega (arith, short, within)) (batch-few text)

    by : (answer : Result Draft Why) → ((f : Draft) → answer ≡ Ok f → AddsFew n d f) → in_block answer ≡ Ok e → AddsFew n d e
    by (Ok f) adds h = adds-to n d (record f { block = true }) e (adds f refl) (same-ok _ _ h)
    by (Err reason) adds h = cc

adds-with : (n : ℕ) (d e : Draft) (text : List ℕ) (rest : List (List ℕ)) → length text + total rest + 1 ≤ n → with_text d (Some text) rest ≡ Ok e → AddsFew n d e
adds-with n d e text rest within h = by (is_block (script_line_of text)) h
  where
    by : (block : Bool) → cond block (with_block d rest) (draft_with_line d (script_line_of text)) ≡ Ok e → AddsFew n d e
    by true h = adds-block n d e rest (omega (arith, within)) h
    by false h = adds-line n d e (script_line_of text) (omega (arith, within)) (line-within (length text + 1) n (script_line_of text) (omega (arith, within)) (line-of text)) h

adds-text : (n : ℕ) (d e : Draft) (bytes : List ℕ) (rest : List (List ℕ)) → length bytes + total rest + 1 ≤ n → with_text d (text_of bytes) rest ≡ Ok e → AddsFew n d e
adds-text n d e bytes rest within h = by (is_utf8 bytes) h
  where
    by : (utf8 : Bool) → with_text d (cond utf8 (Some bytes) None) rest ≡ Ok e → AddsFew n d e
    by true h = adds-with n d e bytes rest within h
    by false h = cc

adds-step : (d e : Draft) (number : ℕ) (line : List ℕ) (rest : List (List ℕ)) → step d number line rest ≡ Ok e → AddsFew (length line + total rest + 1) d e
adds-step d e number line rest h =
    let text = steps-if (nat_lt 1000000 number) _ (draft_step d (line_text line) rest) e h in
    by d.block (steps-if (is_too_long (line_text line)) _ _ e text)
  where
    by : (block : Bool) → cond block (Ok (record d { block = not (is_end (line_text line)) })) (with_text d (text_of (line_text line)) rest) ≡ Ok e → AddsFew (length line + total rest + 1) d e
    by true h = adds-to (length line + total rest + 1) d (record d { block = not (is_end (line_text line)) }) e (omega arith) (same-ok _ _ h)
    by false h = adds-text (length line + total rest + 1) d e (line_text line) rest (let short = text-short line in omega (arith, short)) h

-- ---- whole scripts

-- at its end a script has no more acts than its draft
acts-at : (p : Place) (d : Draft) → acts_in (script_at p d).rounds ≤ draft_acts d
acts-at place.Settled d = let same = acts-ended d.place d in omega (arith, same)
acts-at place.Head d = let same = acts-ended d.place d in let all = acts-ended place.Settled (round_settled d) in omega (arith, same, all)
acts-at (place.Section producer) d = let same = acts-ended d.place d in let all = acts-ended place.Settled (round_settled d) in omega (arith, same, all)

acts-by : (d : Draft) (number : ℕ) (line : List ℕ) (rest : List (List ℕ)) (script : Script) (answer : Result Draft Why) → step d number line rest ≡ answer → length line + total rest ≤ 67108864
    → ((e : Draft) → script_from (Ok e) number rest ≡ Ok script → acts_in script.rounds ≤ draft_acts e + length rest * 67108865)
    → script_from answer number rest ≡ Ok script → acts_in script.rounds ≤ draft_acts d + suc (length rest) * 67108865
acts-by d number line rest script (Err reason) is within more h = cc
acts-by d number line rest script (Ok e) is within more h =
    let here = adds-step d e number line rest is in
    let behind = more e h in
    omega (arith, here, behind, within)

acts-from : (d : Draft) (number : ℕ) (lines : List (List ℕ)) (script : Script) → total lines ≤ 67108864 → script_from (Ok d) number lines ≡ Ok script → acts_in script.rounds ≤ draft_acts d + length lines * 67108865
unfolding total
acts-from d number [] script within h =
    let at : acts_in script.rounds ≤ draft_acts d = subst (λ s. acts_in s.rounds ≤ draft_acts d) (same-script _ _ (script_from (Ok d) number []) refl h) (acts-at d.place d) in
    omega (arith, at)
acts-from d number (line ∷ lines) script within h =
    acts-by d (number + 1) line lines script (step d (number + 1) line lines) refl within (λ e k. acts-from e (number + 1) lines script (omega (arith, within)) k) h

bytes-few : (long : Bool) (refused : Refused) (answer : Result Script Refused) (bytes : List ℕ) (script : Script) → nat_lt 67108864 (length bytes) ≡ long → cond long (Err refused) answer ≡ Ok script → length bytes ≤ 67108864
bytes-few true refused answer bytes script is h = cc
bytes-few false refused answer bytes script is h = ltb-false 67108864 (length bytes) is

acts-all : (bytes : List ℕ) (script : Script) → script_of bytes ≡ Ok script → acts_in script.rounds < 2 ^ 62
unfolding acts_in
acts-all bytes script h =
    let short = bytes-few (nat_lt 67108864 (length bytes)) _ _ bytes script refl h in
    let lines = total-lines bytes in
    let few = few-lines bytes script h in
    let acts = acts-from new_draft 0 (lines_in bytes) script (omega (arith, short, lines)) (accepted (nat_lt 67108864 (length bytes)) _ _ script h) in
    omega (arith, few, acts)

each-few : (rounds : List Round) → acts_in rounds < 2 ^ 62 → AllByRecursion (λ r. number_of_acts r.sections < 2 ^ 62) rounds
unfolding acts_in
each-few [] few = tt
each-few (round ∷ rounds) few = (omega (arith, few), each-few rounds (omega (arith, few)))

-- each round of an accepted script has few acts
pub acts-few : (bytes : List ℕ) (script : Script) → script_of bytes ≡ Ok script → AllByRecursion (λ r. number_of_acts r.sections < 2 ^ 62) script.rounds
acts-few bytes script h = each-few script.rounds (acts-all bytes script h)
