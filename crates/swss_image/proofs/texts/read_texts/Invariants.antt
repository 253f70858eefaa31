use Rattle.std.proofs.Common.{◌≡◌, ◌++◌, option_map}
use Rattle.serde_json.specs.View.{members_view}
use Rattle.swss_image.specs.Texts.{texts_in}
use Rattle.swss_image.proofs.texts.read_texts.Given as goal

-- the texts so far, with those of the members that are left, are those of all members
abbrev pub invariant-loop-name : goal.invariant-loop-name
invariant-loop-name l = option_map (λ more. l.texts.items ++ more) (texts_in (members_view l.name-iterator)) ≡ texts_in (members_view l.fn.members.entries)
