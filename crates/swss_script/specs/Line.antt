-- Lines of a script, by their words. Own.
use Rattle.std.specs.Prelude.{ℕ, ◌==◌, nat_lt, Bool, true, false, ◌||◌, List, [], ◌∷◌, ◌++◌, Option, Some, None, option_map, option_and_then, codes, bytes_eq, if◌then◌else◌}
use Rattle.std.specs.Char.{is_ascii_alphanumeric}
use Rattle.std.specs.List.{list_all, starts_with}
use Rattle.swss_types.specs.Ip.{ip_of}
use Rattle.swss_types.specs.Number.{number_within}
use Rattle.swss_types.specs.VrfNames.{vrf_name_of}
use Rattle.swss_types.specs.declared.address.Ip.{Ip}
use Rattle.swss_types.specs.declared.vrf.Vrf.{Vrf}
use Rattle.swss_types.specs.declared.vrf.Vrf.TheVariants as vrf
use Rattle.sai_types.specs.declared.kind.Kind.{Kind}
use Rattle.sai_types.specs.declared.kind.Kind.TheVariants as kind
use Rattle.table_schema.specs.Fields.{Pairs}
use Rattle.table_schema.specs.declared.key.Key.{Key}
use Rattle.table_schema.specs.declared.write.Write.TheVariants as write
use Rattle.swss_image.specs.Loaded.{image_of}
use Rattle.swss_script.specs.Batch.{batch_of, key_in_word}
use Rattle.swss_script.specs.Fields.{fields_of, set_fields}
use Rattle.swss_script.specs.Words.{behind_word, two_words, words_in}
use Rattle.swss_script.specs.declared.line.TheConstants.{MOST_CAPACITY, MOST_CALL}
use Rattle.swss_script.specs.declared.line.HeadLine.{HeadLine}
use Rattle.swss_script.specs.declared.line.HeadLine.TheVariants as head
use Rattle.swss_script.specs.declared.line.Line.{Line}
use Rattle.swss_script.specs.declared.line.Line.TheVariants.{Blank, Head, Producer, Put, Batch, Block, Restart, Settle, Shown, Other}
use Rattle.swss_script.specs.declared.parts.Show.{Show}
use Rattle.swss_script.specs.declared.parts.Show.TheVariants as show

-- `port NAME LANES`: a name, a space and lanes, as a port plan takes them
abbrev pub port_head : List (List ℕ) → Option HeadLine
port_head words = option_map (λ parts. head.Port (parts.0 ++ 32 ∷ parts.1)) (two_words words)

-- the kind of a word
abbrev pub kind_of_word : List ℕ → Option Kind
kind_of_word word =
    if bytes_eq word (codes "PORT") then Some kind.Port
    else if bytes_eq word (codes "VLAN") then Some kind.Vlan
    else if bytes_eq word (codes "VIRTUAL_ROUTER") then Some kind.VirtualRouter
    else if bytes_eq word (codes "BRIDGE_PORT") then Some kind.BridgePort
    else if bytes_eq word (codes "VLAN_MEMBER") then Some kind.VlanMember
    else if bytes_eq word (codes "RIF") then Some kind.Rif
    else if bytes_eq word (codes "OWN_ADDRESS") then Some kind.OwnAddress
    else if bytes_eq word (codes "NEIGHBOR") then Some kind.Neighbor
    else if bytes_eq word (codes "NEXT_HOP") then Some kind.NextHop
    else if bytes_eq word (codes "GROUP") then Some kind.Group
    else if bytes_eq word (codes "GROUP_MEMBER") then Some kind.GroupMember
    else if bytes_eq word (codes "ROUTE") then Some kind.Route
    else None

abbrev pub chip_with : Option Kind → Option ℕ → Option HeadLine
chip_with None most = None
chip_with (Some k) None = None
chip_with (Some k) (Some most) = Some (head.Chip k most)

-- `chip KIND MAX`
abbrev pub chip_head : List (List ℕ) → Option HeadLine
chip_head words = option_and_then (λ parts. chip_with (kind_of_word parts.0) (number_within MOST_CAPACITY parts.1)) (two_words words)

-- whether a failing call takes effect before it fails
abbrev pub is_after : List ℕ → Option Bool
is_after word = if bytes_eq word (codes "before") then Some false else if bytes_eq word (codes "after") then Some true else None

abbrev pub fail_with : Option ℕ → Option Bool → Option HeadLine
fail_with None after = None
fail_with (Some number) None = None
fail_with (Some number) (Some after) = if nat_lt 0 number then Some (head.Fail (record { at = number; after = after })) else None

-- `fail N before` and `fail N after`
abbrev pub fail_line : List (List ℕ) → Option HeadLine
fail_line words = option_and_then (λ parts. fail_with (number_within MOST_CALL parts.0) (is_after parts.1)) (two_words words)

-- `image JSON`
abbrev pub image_line : List (List ℕ) → List ℕ → Option HeadLine
image_line [] text = None
image_line (word ∷ words) text = Some (head.Image (image_of text))

-- a producer's name has letters, digits, `_` and `-`
abbrev pub is_name : List ℕ → Bool
is_name word = list_all (λ byte. is_ascii_alphanumeric byte || byte == 95 || byte == 45) word

-- `producer NAME`
abbrev pub producer_line : List (List ℕ) → Line
producer_line (word ∷ []) = if is_name word then Producer word else Other
producer_line words = Other

abbrev pub set_with : Option Key → Option Pairs → Line
set_with None fields = Other
set_with (Some key) None = Other
set_with (Some key) (Some fields) = Put (write.Set key (set_fields fields))

-- `set KEY F=V ..`
abbrev pub set_line : List (List ℕ) → Line
set_line [] = Other
set_line (word ∷ words) = set_with (key_in_word word) (fields_of words)

abbrev pub del_with : Option Key → Line
del_with None = Other
del_with (Some key) = Put (write.Del key)

-- `del KEY`
abbrev pub del_line : List (List ℕ) → Line
del_line (word ∷ []) = del_with (key_in_word word)
del_line words = Other

-- `json` alone, and `json JSON`
abbrev pub json_line : List (List ℕ) → List ℕ → Line
json_line [] text = Block
json_line (word ∷ words) text = Batch (batch_of text)

-- a word that stands alone
abbrev pub word_alone : Line → List (List ℕ) → Line
word_alone line [] = line
word_alone line (word ∷ words) = Other

abbrev pub show_of : List ℕ → Option Show
show_of word =
    if bytes_eq word (codes "chip") then Some show.Chip
    else if bytes_eq word (codes "tables") then Some show.Tables
    else if bytes_eq word (codes "ignored") then Some show.Ignored
    else if bytes_eq word (codes "waiting") then Some show.Waiting
    else if bytes_eq word (codes "warm") then Some show.Warm
    else if bytes_eq word (codes "ready") then Some show.Ready
    else if bytes_eq word (codes "calls") then Some show.Calls
    else if bytes_eq word (codes "counts") then Some show.Counts
    else if bytes_eq word (codes "image") then Some show.Image
    else None

-- an address that is looked up in a router
abbrev pub forward_at : Option Vrf → Option Ip → Option Show
forward_at None ip = None
forward_at (Some v) None = None
forward_at (Some v) (Some ip) = Some (show.Forward v ip)

-- where an address is looked up: in this router
abbrev pub forward_in : List ℕ → Option Vrf → List ℕ → Option Show
forward_in word v address = if bytes_eq word (codes "forward") then forward_at v (ip_of address) else None

abbrev pub shown : Option Show → Line
shown None = Other
shown (Some what) = Shown what

-- `show WHAT`
abbrev pub show_line : List (List ℕ) → Line
show_line (word ∷ []) = shown (show_of word)
show_line (word ∷ address ∷ []) = shown (forward_in word (Some vrf.Default) address)
show_line (word ∷ router ∷ address ∷ []) = shown (forward_in word (option_map vrf.Named (vrf_name_of router)) address)
show_line words = Other

-- a line by its first word, the others, and the text behind the first
abbrev pub line_by : List ℕ → List (List ℕ) → List ℕ → Line
line_by first others behind =
    if starts_with ◌==◌ first (codes "#") then Blank
    else if bytes_eq first (codes "port") then Head (port_head others)
    else if bytes_eq first (codes "chip") then Head (chip_head others)
    else if bytes_eq first (codes "fail") then Head (fail_line others)
    else if bytes_eq first (codes "image") then Head (image_line others behind)
    else if bytes_eq first (codes "producer") then producer_line others
    else if bytes_eq first (codes "set") then set_line others
    else if bytes_eq first (codes "del") then del_line others
    else if bytes_eq first (codes "json") then json_line others behind
    else if bytes_eq first (codes "restart") then word_alone Restart others
    else if bytes_eq first (codes "settle") then word_alone Settle others
    else if bytes_eq first (codes "show") then show_line others
    else Other

-- a line by its words: one without a word is blank, and one whose first word begins with `#`
abbrev pub line_with : List (List ℕ) → List ℕ → Line
line_with [] behind = Blank
line_with (first ∷ others) behind = line_by first others behind

-- what a line says
abbrev pub script_line_of : List ℕ → Line
script_line_of text = line_with (words_in text) (behind_word text)

-- a block begins
abbrev pub is_block : Line → Bool
is_block Block = true
is_block line = false
