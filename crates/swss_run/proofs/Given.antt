-- the keys of a script's writes were read
use Rattle.std.proofs.Common.{◌≡◌, ℕ, ◌+◌, List, [], ◌∷◌, ◌++◌, map, Ok, subst}
use Rattle.std.specs.List.{AllByRecursion}
use Rattle.table_schema.specs.KeyText.{key_text}
use Rattle.table_schema.specs.ProperKey.{IsReadKey}
use Rattle.table_schema.specs.Rows.{Rows}
use Rattle.table_schema.specs.declared.key.Key.{Key}
use Rattle.table_schema.specs.declared.write.Sent.{Sent}
use Rattle.table_schema.specs.declared.write.Write.{Write}
use Rattle.table_schema.specs.declared.write.Write.TheVariants as write
use Rattle.switch_model.specs.Marks.{written_key}
use Rattle.machine_laws.specs.Reading.{IsOnSwitch}
use Rattle.machine_laws.proofs.Switched.{switched-key_of}
use Rattle.table_schema.specs.Writes.{HasReadKey}
use Rattle.swss_script.specs.Behind.{row_act, rounds_behind}
use Rattle.swss_script.specs.Script.{script_of}
use Rattle.swss_script.specs.Sections.{PlacedWrite, acts_of, acts_writes, producer_name, rounds_writes, sections_writes}
use Rattle.swss_script.specs.Sent.{next_sent, sent_after, sent_in_round, writes_in}
use Rattle.swss_script.specs.Stage.{AreImageRows}
use Rattle.swss_script.specs.declared.parts.Act.{Act}
use Rattle.swss_script.specs.declared.parts.Act.TheVariants as act
use Rattle.swss_script.specs.declared.parts.Round.{Round}
use Rattle.swss_script.specs.declared.parts.Section.{Section}
use Rattle.swss_script.specs.declared.script.Script.{Script}
use Rattle.swss_script.proofs.SetFields.{keys-were_read}
use Rattle.swss_service.specs.Taking.{HaveReadKeys}

-- ---- in each round

abbrev AreRead : List PlacedWrite → Type 0
AreRead writes = AllByRecursion (λ (p : PlacedWrite). HasReadKey p.write) writes

read-front : (xs ys : List PlacedWrite) → AreRead (xs ++ ys) → AreRead xs
read-front [] ys h = tt
read-front (x ∷ xs) ys h = (h.0, read-front xs ys h.1)

read-back : (xs ys : List PlacedWrite) → AreRead (xs ++ ys) → AreRead ys
read-back [] ys h = h
read-back (x ∷ xs) ys h = read-back xs ys h.1

read-both : (xs ys : List (ℕ × Write)) → HaveReadKeys xs → HaveReadKeys ys → HaveReadKeys (xs ++ ys)
read-both [] ys h more = more
read-both (x ∷ xs) ys h more = (h.0, read-both xs ys h.1 more)

read-acts : (round producer : ℕ) (name : List ℕ) (acts : List Act) → AreRead (acts_writes round name acts) → HaveReadKeys (map (λ w. (producer, w)) (acts_of acts))
read-acts round producer name [] h = tt
read-acts round producer name (act.Write w ∷ acts) h = (h.0, read-acts round producer name acts h.1)
read-acts round producer name (act.Restart ∷ acts) h = read-acts round producer name acts h

read-sections : (names : List (List ℕ)) (round : ℕ) (sections : List Section) → AreRead (sections_writes names round sections) → HaveReadKeys (writes_in sections)
read-sections names round [] h = tt
read-sections names round (section ∷ sections) h =
    let first = acts_writes round (producer_name names section.producer) section.acts in
    let rest = sections_writes names round sections in
    read-both (map (λ w. (section.producer, w)) (acts_of section.acts)) (writes_in sections)
    (read-acts round section.producer (producer_name names section.producer) section.acts (read-front first rest h))
    (read-sections names round sections (read-back first rest h))

read-rounds : (names : List (List ℕ)) (number : ℕ) (rounds : List Round) → AreRead (rounds_writes names number rounds) → AllByRecursion (λ (r : Round). HaveReadKeys (writes_in r.sections)) rounds
read-rounds names number [] h = tt
read-rounds names number (round ∷ rounds) h =
    let first = sections_writes names number round.sections in
    let rest = rounds_writes names (number + 1) rounds in
    (read-sections names number round.sections (read-front first rest h), read-rounds names (number + 1) rounds (read-back first rest h))

pub rounds-were_read : (bytes : List ℕ) (script : Script) → script_of bytes ≡ Ok script → AllByRecursion (λ (r : Round). HaveReadKeys (writes_in r.sections)) script.rounds
rounds-were_read bytes script is = read-rounds script.producers 1 script.rounds (keys-were_read bytes script is)

-- ---- behind an image

abbrev pub HaveReadRounds : List Round → Type 0
HaveReadRounds rounds = AllByRecursion (λ (r : Round). HaveReadKeys (writes_in r.sections)) rounds

read-rows : (image : Rows) → AreImageRows image → HaveReadKeys (map (λ w. (0, w)) (acts_of (map row_act image)))
read-rows [] h = tt
read-rows (row ∷ rows) (first, h) = (first.0, read-rows rows h)

pub read-behind : (image : Rows) (rounds : List Round) → AreImageRows image → HaveReadRounds rounds → HaveReadRounds (rounds_behind image rounds)
read-behind [] rounds h read = read
read-behind (row ∷ rows) [] h read = tt
read-behind (row ∷ rows) (round ∷ rounds) h (first, read) = (read-both (map (λ w. (0, w)) (acts_of (map row_act (row ∷ rows)))) (writes_in round.sections) (read-rows (row ∷ rows) h) first, read)

-- ---- as they are sent

-- the key of each of these writes is one that a text is
abbrev pub AreOnSwitch : List Sent → Type 0
AreOnSwitch sent = AllByRecursion (λ (s : Sent). IsOnSwitch (written_key s.write)) sent

on-read : (k : Key) → IsReadKey k → IsOnSwitch k
on-read k is = subst IsOnSwitch is.reads (switched-key_of (key_text k))

on-write : (w : Write) → HasReadKey w → IsOnSwitch (written_key w)
on-write (write.Set k fields) is = on-read k is
on-write (write.Del k) is = on-read k is

on-more : (sent : List Sent) (s : Sent) → AreOnSwitch sent → IsOnSwitch (written_key s.write) → AreOnSwitch (sent ++ s ∷ [])
on-more [] s h one = (one, tt)
on-more (x ∷ sent) s h one = (h.0, on-more sent s h.1 one)

on-after : (sent : List Sent) (writes : List (ℕ × Write)) → AreOnSwitch sent → HaveReadKeys writes → AreOnSwitch (sent_after sent writes)
on-after sent [] h read = h
on-after sent (w ∷ writes) h read = on-after (sent ++ next_sent sent w ∷ []) writes (on-more sent (next_sent sent w) h (on-write w.1 read.0)) read.1

pub on-round : (round : Round) → HaveReadKeys (writes_in round.sections) → AreOnSwitch (sent_in_round round)
on-round round read = on-after [] (writes_in round.sections) tt read

pub on-front : (front back : List Sent) → AreOnSwitch (front ++ back) → AreOnSwitch front
on-front [] back h = tt
on-front (s ∷ front) back h = (h.0, on-front front back h.1)
