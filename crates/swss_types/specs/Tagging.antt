-- The words of a VLAN member's tagging, as SONiC's VLAN_MEMBER_TABLE spells them.
use Rattle.std.specs.Prelude.{ℕ, List, Option, Some, None, codes, bytes_eq, if◌then◌else◌}
use Rattle.swss_types.specs.declared.tagging.Tagging.{Tagging}
use Rattle.swss_types.specs.declared.tagging.Tagging.TheVariants.{Untagged, Tagged, PriorityTagged}

-- the word of a tagging
abbrev pub tagging_text : Tagging → List ℕ
tagging_text Untagged = codes "untagged"
tagging_text Tagged = codes "tagged"
tagging_text PriorityTagged = codes "priority_tagged"

-- the tagging whose word the text is
abbrev pub tagging_of : List ℕ → Option Tagging
tagging_of text =
    if bytes_eq text (codes "untagged") then Some Untagged
    else (if bytes_eq text (codes "tagged") then Some Tagged
    else (if bytes_eq text (codes "priority_tagged") then Some PriorityTagged else None))
