-- A list in JSON has no more items than its text has bytes, and one.
use Rattle.std.proofs.Common.{ℕ, zero, suc, ◌+◌, ◌≤◌, Bool, true, false, List, [], ◌∷◌, length, Option, Some, None, option_map, option_and_then, arith}
use Rattle.json.specs.Json as json
use Rattle.json.specs.Json.{Parse, after_end_array, items_step, parse_map, value_with}
use Rattle.json.specs.Lex.{Class, Lexeme, Mode, Place, after_comma, after_key, after_value, backslash, begins_colon, between, class, colon, comma, fresh, if_allowed, in_escape, in_string, in_word, lex, lex_byte, may_begin, may_close, operator, other, place_token, punctuate, quote, space, token, tokens}
use Rattle.json.specs.Token.{Token}
use Rattle.serde_json.specs.Data.{Data, Items, Members, Num, array, item, no_members, number, object}
use Rattle.serde_json.specs.Events.{items_len}
use Rattle.serde_json.specs.Find.{as_array}
use Rattle.serde_json.specs.Read.{max_depth, number_of, of_items, of_json, of_members, read}

-- ---- tokens

-- a byte begins one lexeme at most
module _ (x : ℕ) (xs : List ℕ) (k : Mode → List Lexeme) (n : ℕ) (few : (next : Mode) → length (k next) ≤ n) where
  passes : (next : Mode) → length (k next) ≤ n + 1
  passes next = let rest = few next in omega (arith, rest)

  begins : (next : Mode) → suc (length (k next)) ≤ n + 1
  begins next = let rest = few next in omega (arith, rest)

  byte-few : (m : Mode) (c : Class) → length (lex_byte m c x xs k) ≤ n + 1
  byte-few between quote = begins in_string
  byte-few between backslash = begins in_word
  byte-few between operator = begins between
  byte-few between space = passes between
  byte-few between other = begins in_word
  byte-few in_word quote = passes in_word
  byte-few in_word backslash = passes in_word
  byte-few in_word operator = begins between
  byte-few in_word space = passes between
  byte-few in_word other = passes in_word
  byte-few in_string quote = passes between
  byte-few in_string backslash = passes in_escape
  byte-few in_string operator = passes in_string
  byte-few in_string space = passes in_string
  byte-few in_string other = passes in_string
  byte-few in_escape c = passes in_string

lex-few : (m : Mode) (text : List ℕ) → length (lex m text) ≤ length text
unfolding lex
lex-few m [] = omega arith
lex-few m (x ∷ xs) = let one = byte-few x xs (λ next. lex next xs) (length xs) (λ next. lex-few next xs) m (class x) in omega (arith, one)

-- a lexeme comes to one token at most, but where the text is at fault
module _ (k : Place → List Token) (n : ℕ) (few : (next : Place) → length (k next) ≤ n) where
  allowed-few : (b : Bool) (t : Token) (next : Place) → length (if_allowed b t k next) ≤ n + 1
  allowed-few true t next = let rest = few next in omega (arith, rest)
  allowed-few false t next = omega arith

  token-few : (p : Place) (t : Token) (before_colon : Bool) → length (place_token p t before_colon k) ≤ n + 1
  token-few p Token.begin_object b = allowed-few (may_begin p) Token.begin_object fresh
  token-few p Token.end_object b = allowed-few (may_close p) Token.end_object after_value
  token-few p Token.begin_array b = allowed-few (may_begin p) Token.begin_array fresh
  token-few p Token.end_array b = allowed-few (may_close p) Token.end_array after_value
  token-few p (Token.key s) b = omega arith
  token-few p (Token.string s) true = allowed-few (may_begin p) (Token.key s) after_key
  token-few p (Token.string s) false = allowed-few (may_begin p) (Token.string s) after_value
  token-few p (Token.number s) b = allowed-few (may_begin p) (Token.number s) after_value
  token-few p (Token.boolean c) b = allowed-few (may_begin p) (Token.boolean c) after_value
  token-few p Token.null b = allowed-few (may_begin p) Token.null after_value
  token-few p Token.bad b = omega arith

punctuate-few : (p : Place) (ls : List Lexeme) → length (punctuate p ls) ≤ length ls + 1
unfolding punctuate
punctuate-few fresh [] = omega arith
punctuate-few after_value [] = omega arith
punctuate-few after_comma [] = omega arith
punctuate-few after_key [] = omega arith
punctuate-few fresh (token t ∷ ls) = let one = token-few (λ next. punctuate next ls) (length ls + 1) (λ next. punctuate-few next ls) fresh t (begins_colon ls) in omega (arith, one)
punctuate-few after_value (token t ∷ ls) = let one = token-few (λ next. punctuate next ls) (length ls + 1) (λ next. punctuate-few next ls) after_value t (begins_colon ls) in omega (arith, one)
punctuate-few after_comma (token t ∷ ls) = let one = token-few (λ next. punctuate next ls) (length ls + 1) (λ next. punctuate-few next ls) after_comma t (begins_colon ls) in omega (arith, one)
punctuate-few after_key (token t ∷ ls) = let one = token-few (λ next. punctuate next ls) (length ls + 1) (λ next. punctuate-few next ls) after_key t (begins_colon ls) in omega (arith, one)
punctuate-few fresh (comma ∷ ls) = omega arith
punctuate-few after_value (comma ∷ ls) = let rest = punctuate-few after_comma ls in omega (arith, rest)
punctuate-few after_comma (comma ∷ ls) = omega arith
punctuate-few after_key (comma ∷ ls) = omega arith
punctuate-few fresh (colon ∷ ls) = omega arith
punctuate-few after_value (colon ∷ ls) = omega arith
punctuate-few after_comma (colon ∷ ls) = omega arith
punctuate-few after_key (colon ∷ ls) = let rest = punctuate-few fresh ls in omega (arith, rest)

tokens-few : (text : List ℕ) → length (tokens text) ≤ length text + 1
tokens-few text = let lexemes = lex-few between text in let placed = punctuate-few fresh (lex between text) in omega (arith, lexemes, placed)

-- ---- lists of tokens

abbrev item_count : json.Items → ℕ
item_count json.no_items = 0
item_count (json.item j js) = suc (item_count js)

abbrev HaveFew : ℕ → Option (json.Items × List Token) → Type 0
HaveFew n None = Unit {0}
HaveFew n (Some p) = item_count p.0 ≤ n

few-within : (m n : ℕ) (r : Option (json.Items × List Token)) → m ≤ n → HaveFew m r → HaveFew n r
few-within m n None within few = tt
few-within m n (Some p) within few = omega (arith, within, few)

one-more : (j : json.Json) (n : ℕ) (r : Option (json.Items × List Token)) → HaveFew n r → HaveFew (suc n) (parse_map (json.item j) r)
one-more j n None few = tt
one-more j n (Some p) few = omega (arith, few)

step-few : (value : Parse json.Json) (more : Parse json.Items) (ts : List Token) (n : ℕ) (end : Option (List Token)) → ((left : List Token) → HaveFew n (more left)) → HaveFew (suc n) (items_step value more ts end)
step-few value more ts n (Some left) few = omega arith
step-few value more ts n None few = by (value ts)
  where
    by : (one : Option (json.Json × List Token)) → HaveFew (suc n) (option_and_then (λ p. parse_map (json.item p.0) (more p.1)) one)
    by None = tt
    by (Some p) = one-more p.0 n (more p.1) (few p.1)

-- so many turns read no more items
items-few : (value : Parse json.Json) (n : ℕ) (ts : List Token) → HaveFew n (json.items value n ts)
unfolding json.items
items-few value zero ts = tt
items-few value (suc n) ts = step-few value (json.items value n) ts n (after_end_array ts) (items-few value n)

-- where it is a list, it has few items
abbrev IsFew : ℕ → json.Json → Type 0
IsFew n (json.array js) = item_count js ≤ n
IsFew n j = Unit {0}

abbrev IsReadFew : ℕ → Option (json.Json × List Token) → Type 0
IsReadFew n None = Unit {0}
IsReadFew n (Some p) = IsFew n p.0

array-few : (n : ℕ) (r : Option (json.Items × List Token)) → HaveFew n r → IsReadFew n (parse_map json.array r)
array-few n None few = tt
array-few n (Some p) few = few

object-few : (n : ℕ) (r : Option (json.Members × List Token)) → IsReadFew n (parse_map json.object r)
object-few n None = tt
object-few n (Some p) = tt

with-few : (n : ℕ) (items : Parse json.Items) (members : Parse json.Members) (ts : List Token) → ((left : List Token) → length left ≤ n → HaveFew n (items left)) → length ts ≤ n → IsReadFew n (value_with items members ts)
with-few n items members [] few within = tt
with-few n items members (Token.begin_object ∷ ts) few within = object-few n (members ts)
with-few n items members (Token.end_object ∷ ts) few within = tt
with-few n items members (Token.begin_array ∷ ts) few within = array-few n (items ts) (few ts (omega (arith, within)))
with-few n items members (Token.end_array ∷ ts) few within = tt
with-few n items members (Token.key s ∷ ts) few within = tt
with-few n items members (Token.string s ∷ ts) few within = tt
with-few n items members (Token.number s ∷ ts) few within = tt
with-few n items members (Token.boolean b ∷ ts) few within = tt
with-few n items members (Token.null ∷ ts) few within = tt
with-few n items members (Token.bad ∷ ts) few within = tt

value-few : (depth : ℕ) (ts : List Token) → IsReadFew (length ts) (json.value depth ts)
unfolding json.value
value-few zero ts = with-few (length ts) (λ left. None) (λ left. None) ts (λ left within. tt) (omega arith)
value-few (suc depth) ts =
    with-few (length ts) (λ left. json.items (json.value depth) (length left) left) (λ left. json.members (json.value depth) (length left) left) ts
    (λ left within. few-within (length left) (length ts) (json.items (json.value depth) (length left) left) within (items-few (json.value depth) (length left) left)) (omega arith)

-- ---- values

abbrev pub AreFew : ℕ → Option Items → Type 0
AreFew n None = Unit {0}
AreFew n (Some ds) = items_len ds ≤ n

-- where a value was read and is a list, it has few items
abbrev pub IsDataFew : ℕ → Option Data → Type 0
IsDataFew n None = Unit {0}
IsDataFew n (Some d) = AreFew n (as_array d)

item-of : (one : Option Data) (rest : Option Items) (n : ℕ) → AreFew n rest → AreFew (suc n) (option_and_then (λ d. option_map (item d) rest) one)
item-of None rest n few = tt
item-of (Some d) None n few = tt
item-of (Some d) (Some ds) n few = omega (arith, few)

items-of : (js : json.Items) → AreFew (item_count js) (of_items js)
items-of json.no_items = omega arith
items-of (json.item j js) = item-of (of_json j) (of_items js) (item_count js) (items-of js)

data-of : (n : ℕ) (j : json.Json) → IsFew n j → IsDataFew n (of_json j)
data-of n json.null few = tt
data-of n (json.boolean b) few = tt
data-of n (json.number s) few = by (number_of s)
  where
    by : (r : Option Num) → IsDataFew n (option_map number r)
    by None = tt
    by (Some z) = tt
data-of n (json.string s) few = tt
data-of n (json.array js) few = by (of_items js) (items-of js)
  where
    by : (r : Option Items) → AreFew (item_count js) r → IsDataFew n (option_map array r)
    by None fewer = tt
    by (Some ds) fewer = omega (arith, few, fewer)
data-of n (json.object ms) few = by (of_members ms no_members)
  where
    by : (r : Option Members) → IsDataFew n (option_map object r)
    by None = tt
    by (Some es) = tt

last-few : (n : ℕ) (j : json.Json) (ts : List Token) → IsFew n j → IsDataFew n (option_and_then of_json (json.if_last j ts))
last-few n j [] few = data-of n j few
last-few n j (t ∷ ts) few = tt

whole-few : (n : ℕ) (r : Option (json.Json × List Token)) → IsReadFew n r → IsDataFew n (option_and_then of_json (option_and_then (λ p. json.if_last p.0 p.1) r))
whole-few n None few = tt
whole-few n (Some p) few = last-few n p.0 p.1 few

data-within : (m n : ℕ) (r : Option Data) → m ≤ n → IsDataFew m r → IsDataFew n r
data-within m n None within few = tt
data-within m n (Some d) within few = by (as_array d) few
  where
    by : (ds : Option Items) → AreFew m ds → AreFew n ds
    by None few = tt
    by (Some ds) few = omega (arith, within, few)

pub read-few : (text : List ℕ) → IsDataFew (length text + 1) (read text)
read-few text = data-within (length (tokens text)) (length text + 1) (read text) (tokens-few text) (whole-few (length (tokens text)) (json.value max_depth (tokens text)) (value-few max_depth (tokens text)))
