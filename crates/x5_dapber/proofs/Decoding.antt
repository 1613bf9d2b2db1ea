-- What decoding answers, by what the reading of a value answers.
use Rattle.std.proofs.Common.{◌≡◌, ap, sym, subst, ◌∙◌}
use Rattle.std.specs.declared.result.Result.{Result}
use Rattle.std.specs.declared.result.Result.TheVariants.{Ok, Err}
use Rattle.x5_model_octets.specs.Breaches as octet_breaches
use Rattle.x5_model_typed.specs.Nodes as nodes
use Rattle.x5_typed.specs.Breaches.{Gives}
use Rattle.x5_typed.specs.declared.fault.Breach.TheVariants as breaches
use Rattle.x5_typed.specs.declared.fault.ReadFault.{ReadFault}
use Rattle.x5_typed.specs.declared.fault.ReadFault.TheVariants as faults
use Rattle.x5_types.specs.NodeView.{node_view}
use Rattle.x5_types.specs.declared.node.Node.{Node}
use Rattle.x5_dapber.specs.Results.{Decodes, IsRead, wire_fault}
use Rattle.x5_dapber.specs.declared.fault.WireFault.{WireFault}
use Rattle.x5_dapber.specs.declared.fault.WireFault.TheVariants as wire

module _ {X Y : Type 0} (view : X → Y) (says : nodes.Node → Y) where
  -- a value says what is decoded
  pub value_decodes : (e : Result nodes.Node octet_breaches.Breach) (node : Node) (x : X) → view x ≡ says (node_view node)
      → Gives (λ m n. node_view m ≡ n) e (Ok node) → Decodes view says e (Ok x)
  value_decodes (Ok n) node x h g = h ∙ ap says g
  value_decodes (Err b) node x h g = absurd g

  breach_decodes : (e : Result nodes.Node octet_breaches.Breach) (fault : ReadFault)
      → Gives (λ m n. node_view m ≡ n) e (Err fault) → Decodes view says e (Err (wire_fault fault))
  breach_decodes (Ok n) (faults.Breach b) g = absurd g
  breach_decodes (Ok n) faults.NoMemory g = tt
  breach_decodes (Err (octet_breaches.Ber f)) (faults.Breach (breaches.Ber b)) g = cc
  breach_decodes (Err (octet_breaches.Ber f)) (faults.Breach (breaches.Unrecognised k)) g = absurd (cc g)
  breach_decodes (Err (octet_breaches.Unrecognised l)) (faults.Breach (breaches.Ber b)) g = absurd (cc g)
  breach_decodes (Err (octet_breaches.Unrecognised l)) (faults.Breach (breaches.Unrecognised k)) g = cc
  breach_decodes (Err (octet_breaches.Ber f)) faults.NoMemory g = tt
  breach_decodes (Err (octet_breaches.Unrecognised l)) faults.NoMemory g = tt

  -- so does a breach, and want of memory
  pub fault_decodes : (e : Result nodes.Node octet_breaches.Breach) (fault : ReadFault) (r : Result X WireFault) (w : WireFault)
      → r ≡ Err w → w ≡ wire_fault fault → Gives (λ m n. node_view m ≡ n) e (Err fault) → Decodes view says e r
  fault_decodes e fault r w is same g =
      subst (λ (v : Result X WireFault). Decodes view says e v) (sym is)
      (subst (λ (v : WireFault). Decodes view says e (Err v)) (sym same) (breach_decodes e fault g))

  no_memory_decodes : (e : Result nodes.Node octet_breaches.Breach) → Decodes view says e (Err wire.NoMemory)
  no_memory_decodes (Ok n) = tt
  no_memory_decodes (Err (octet_breaches.Ber f)) = tt
  no_memory_decodes (Err (octet_breaches.Unrecognised k)) = tt

  pub memory_decodes : (e : Result nodes.Node octet_breaches.Breach) (r : Result X WireFault) (w : WireFault) → r ≡ Err w
      → w ≡ wire.NoMemory → Decodes view says e r
  memory_decodes e r w is same =
      subst (λ (v : Result X WireFault). Decodes view says e v) (sym is)
      (subst (λ (v : WireFault). Decodes view says e (Err v)) (sym same) (no_memory_decodes e))

  -- what the value is known to say is read
  pub known_read : (n : nodes.Node) (y : Y) (r : Result X WireFault) → says n ≡ y → Decodes view says (Ok n) r → IsRead view y r
  known_read n y (Ok x) same d = d ∙ same
  known_read n y (Err (wire.Ber f)) same d = absurd d
  known_read n y (Err (wire.Unrecognised k)) same d = absurd d
  known_read n y (Err wire.NoMemory) same d = tt
