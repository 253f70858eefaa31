-- what holds of each kind
use Rattle.std.proofs.Common.{◌≡◌, inl, inr, Bool, true, refl}
use Rattle.std.specs.List.{list_all}
use Rattle.sai_types.specs.declared.kind.Kind.{Kind}
use Rattle.sai_types.specs.declared.kind.Kind.TheVariants as kind
use Rattle.sai_types.specs.Alike.{IsIn}
use Rattle.sai_types.specs.Kinds.{all_kinds}
use Rattle.apply_order.proofs.Members.{all-from, all-of}

in_all_kinds : (k : Kind) → IsIn k all_kinds
in_all_kinds kind.Port = inl refl
in_all_kinds kind.Vlan = inr (inl refl)
in_all_kinds kind.VirtualRouter = inr (inr (inl refl))
in_all_kinds kind.BridgePort = inr (inr (inr (inl refl)))
in_all_kinds kind.VlanMember = inr (inr (inr (inr (inl refl))))
in_all_kinds kind.Rif = inr (inr (inr (inr (inr (inl refl)))))
in_all_kinds kind.OwnAddress = inr (inr (inr (inr (inr (inr (inl refl))))))
in_all_kinds kind.Neighbor = inr (inr (inr (inr (inr (inr (inr (inl refl)))))))
in_all_kinds kind.NextHop = inr (inr (inr (inr (inr (inr (inr (inr (inl refl))))))))
in_all_kinds kind.Group = inr (inr (inr (inr (inr (inr (inr (inr (inr (inl refl)))))))))
in_all_kinds kind.GroupMember = inr (inr (inr (inr (inr (inr (inr (inr (inr (inr (inl refl))))))))))
in_all_kinds kind.Route = inr (inr (inr (inr (inr (inr (inr (inr (inr (inr (inr (inl refl)))))))))))

pub each-kind : (p : Kind → Bool) → list_all p all_kinds ≡ true → (k : Kind) → p k ≡ true
each-kind p h k = all-of p all_kinds k h (in_all_kinds k)

pub kinds-each : (p : Kind → Bool) → ((k : Kind) → p k ≡ true) → list_all p all_kinds ≡ true
kinds-each p h = all-from p all_kinds (λ k i. h k)
