-- A superior and a supplier are nearer.
use Rattle.std.proofs.Common.{◌≡◌, ℕ, zero, suc, ◌+◌, ◌<◌, Bool, true, false, inl, inr, map, refl, sym, ap, subst, ◌∙◌, arith, Option, Some, None, if◌then◌else◌}
use Rattle.x5_model.specs.Words.{in_option}
use Rattle.x5_model.specs.Members.{In, Once}
use Rattle.x5_model.specs.Keys.{Key}
use Rattle.x5_model_tree.specs.World.{World}
use Rattle.x5_model_tree.specs.Masters.{masters, superior_of, supplier_of}
use Rattle.x5_model_run.specs.Stage.{steps_up, steps_to_master}
use Rattle.x5_model_theory.specs.Knowledge.{Supply, IsMastered}
use Rattle.x5_model_theory.specs.Coherent.{Climbs, climbs, IsFed, fed}
use Rattle.x5_model_theory.specs.Described.{supply_of, knowledge_of}
use Rattle.x5_model_theory.proofs.Views.{masters_decides}
use Rattle.x5_model_theory.proofs.Supplying.{given, supplier_is}
use Rattle.x5_model.proofs.Lists.{true_or_false}

module _ (w : World) where
  -- a chain that ends is as long, however far one looks
  climbs_once : (n a : ℕ) → Climbs (knowledge_of w) n a → steps_up n w a ≡ steps_up (suc n) w a
  climbs_once zero a (Climbs.ends e) = sym (ap (λ (o : Option ℕ). in_option 0 (λ (above : ℕ). steps_up 0 w above + 1) o) e)
  climbs_once (suc n) a (Climbs.ends e) =
      ap (λ (o : Option ℕ). in_option 0 (λ (above : ℕ). steps_up n w above + 1) o) e ∙ sym (ap (λ (o : Option ℕ). in_option 0 (λ (above : ℕ). steps_up (suc n) w above + 1) o) e)
  climbs_once n a (climbs {hops = m} {above = b} e c) =
      ap (λ (o : Option ℕ). in_option 0 (λ (above : ℕ). steps_up m w above + 1) o) e
      ∙ ap (λ (x : ℕ). x + 1) (climbs_once m b c)
      ∙ sym (ap (λ (o : Option ℕ). in_option 0 (λ (above : ℕ). steps_up (suc m) w above + 1) o) e)

  pub superior_nearer : (n a s : ℕ) → Climbs (knowledge_of w) (suc n) a → superior_of w a ≡ Some s → steps_up (suc n) w s < steps_up (suc n) w a
  superior_nearer n a s (Climbs.ends e) is = (let none : superior_of w a ≡ None = e in cc)
  superior_nearer n a s (climbs {above = b} e c) is =
      let same : b ≡ s = (let up : superior_of w a ≡ Some b = e in cc) in
      let here : steps_up (suc n) w a ≡ steps_up n w b + 1 = ap (λ (o : Option ℕ). in_option 0 (λ (above : ℕ). steps_up n w above + 1) o) e in
      let level : steps_up n w b ≡ steps_up (suc n) w b = climbs_once n b c in
      let at : steps_up (suc n) w b ≡ steps_up (suc n) w s = ap (λ (x : ℕ). steps_up (suc n) w x) same in
      omega arith

  -- one look at a chain of suppliers
  abbrev look : ℕ → Key → Bool → Option ℕ → ℕ
  look n pin b o = if b then 0 else in_option 0 (λ (s : ℕ). steps_to_master n w pin s + 1) o

  at_master : (n a : ℕ) (pin : Key) → masters w a pin ≡ true → steps_to_master n w pin a ≡ 0
  at_master zero a pin e = refl
  at_master (suc n) a pin e = ap (λ (b : Bool). look n pin b (supplier_of w a pin)) e

  at_consumer : (n a s : ℕ) (pin : Key) → masters w a pin ≡ false → supplier_of w a pin ≡ Some s → steps_to_master (suc n) w pin a ≡ steps_to_master n w pin s + 1
  at_consumer n a s pin e is = ap (λ (b : Bool). look n pin b (supplier_of w a pin)) e ∙ ap (λ (o : Option ℕ). look n pin false o) is

  supplied_by : (s : Supply) (a : ℕ) (pin : Key) → Once (map given w.agreements) → In s (map supply_of w.agreements) → s.consumer ≡ a → s.prefix ≡ pin → supplier_of w a pin ≡ Some s.supplier
  supplied_by s a pin d i c p =
      subst (λ (x : ℕ). supplier_of w x pin ≡ Some s.supplier) c (subst (λ (x : Key). supplier_of w s.consumer x ≡ Some s.supplier) p (supplier_is w s d i))

  fed_once : (pin : Key) (n a : ℕ) → Once (map given w.agreements) → IsFed (knowledge_of w) pin n a → steps_to_master n w pin a ≡ steps_to_master (suc n) w pin a
  fed_once pin n a d (IsFed.ends m) = let e = (masters_decides w a pin).1 m in at_master n a pin e ∙ sym (at_master (suc n) a pin e)
  fed_once pin n a d (fed {hops = m} s i c p f) =
      elim (true_or_false (masters w a pin)) [
        | inl e ↦ at_master (suc m) a pin e ∙ sym (at_master (suc (suc m)) a pin e)
        | inr e ↦
            let is = supplied_by s a pin d i c p in
            at_consumer m a s.supplier pin e is ∙ ap (λ (x : ℕ). x + 1) (fed_once pin m s.supplier d f) ∙ sym (at_consumer (suc m) a s.supplier pin e is)
      ]

  pub supplier_nearer : (pin : Key) (n a s : ℕ) → Once (map given w.agreements) → IsFed (knowledge_of w) pin (suc n) a → (IsMastered (knowledge_of w) a pin → ⊥) → supplier_of w a pin ≡ Some s
      → steps_to_master (suc n) w pin s < steps_to_master (suc n) w pin a
  supplier_nearer pin n a s d (IsFed.ends m) free is = absurd (free m)
  supplier_nearer pin n a s d (fed x i c p f) free is =
      let at : supplier_of w a pin ≡ Some x.supplier = supplied_by x a pin d i c p in
      let same : x.supplier ≡ s = cc in
      let e : masters w a pin ≡ false = elim (true_or_false (masters w a pin)) [ inl t ↦ absurd (free ((masters_decides w a pin).0 t)) | inr u ↦ u ] in
      let here : steps_to_master (suc n) w pin a ≡ steps_to_master n w pin x.supplier + 1 = at_consumer n a x.supplier pin e at in
      let level : steps_to_master n w pin x.supplier ≡ steps_to_master (suc n) w pin x.supplier = fed_once pin n x.supplier d f in
      let there : steps_to_master (suc n) w pin x.supplier ≡ steps_to_master (suc n) w pin s = ap (λ (y : ℕ). steps_to_master (suc n) w pin y) same in
      omega arith
