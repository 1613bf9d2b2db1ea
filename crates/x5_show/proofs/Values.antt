-- Values one after the other.
use Rattle.std.proofs.Common.{◌≡◌, ℕ, ◌+◌, ◌<◌, ◌≤◌, List, [], ◌∷◌, ◌++◌, length, drop, refl, ap, sym, subst, ◌∙◌, arith, length-append, length-drop}
use Rattle.std.proofs.lemmas.List.{drop-drop, drop_all}
use Rattle.std.proofs.Math.Seq.{drop-append_seam}
use Rattle.x5_model_octets.specs.Elements.{Element, Elements, Nil, More, Spells, SpellsAll}
use Rattle.x5_model_octets.specs.Faults.{Fault}
use Rattle.x5_model_octets.proofs.ElementLaws.{nothing_begins}
use Rattle.x5_ber.specs.declared.element.Tlv.{Tlv}
use Rattle.x5_ber.specs.Reading.{Stands}
use Rattle.x5_ber.specs.Found.{IsElementAt}
use Rattle.x5_show.specs.Show.{FaultyFrom, behind}

-- No spelling is empty.
pub spelling_some : (e : Element) (octets : List ℕ) → Spells 1 e octets → 0 < length octets
spelling_some e [] s = absurd (nothing_begins 1 (record { member = e; spelling = []; rest = []; spells = s; whole = refl }))
spelling_some e (o ∷ octets) s = omega arith

-- An element ends behind its place, within the octets.
pub found_bounds : (bytes : List ℕ) (at : ℕ) (tlv : Tlv) (next : ℕ) → IsElementAt bytes at tlv next → (at < next) × (next ≤ length bytes)
found_bounds bytes at tlv next f =
    (omega (arith, f.next_is, spelling_some f.element (f.header ++ (f.content ++ f.tail)) f.spells), omega (arith, f.next_is, f.stands.there))

-- A value, and values behind it.
pub value_before : (bytes : List ℕ) (at : ℕ) (tlv : Tlv) (next : ℕ) (f : IsElementAt bytes at tlv next) (es : Elements) → SpellsAll 1 es (drop next bytes) → SpellsAll 1 (More f.element es) (drop at bytes)
value_before bytes at tlv next f es all =
    (f.header ++ (f.content ++ f.tail), drop next bytes, f.spells, all, f.stands.split ∙ ap (λ (n : ℕ). (f.header ++ (f.content ++ f.tail)) ++ drop n bytes) (sym f.next_is))

pub fault_before : (bytes : List ℕ) (at : ℕ) (tlv : Tlv) (next : ℕ) (fault : Fault) → IsElementAt bytes at tlv next → FaultyFrom bytes next fault → FaultyFrom bytes at fault
fault_before bytes at tlv next fault f faulty =
    behind f.element (f.header ++ (f.content ++ f.tail)) f.spells f.stands (subst (λ (n : ℕ). FaultyFrom bytes n fault) f.next_is faulty)

pub no_more : (bytes : List ℕ) (at : ℕ) → length bytes ≤ at → SpellsAll 1 Nil (drop at bytes)
no_more bytes at ended = drop_all at bytes ended

-- Values from the place to the end.
abbrev pub ValuesFrom : List ℕ → ℕ → Type 0
ValuesFrom bytes at = (values : Elements) × SpellsAll 1 values (drop at bytes)

-- The first of the values from a place on, and the values behind it.
pub record FirstValue (bytes : List ℕ) (at : ℕ) : Type 0 where
  pub value : Element
  pub spelling : List ℕ
  pub spells : Spells 1 value spelling
  pub stands : Stands bytes at spelling
  pub behind : ValuesFrom bytes (at + length spelling)

pub first_value : (bytes : List ℕ) (at : ℕ) → at < length bytes → ValuesFrom bytes at → FirstValue bytes at
first_value bytes at there v = by_values v.0 v.1
  where
    by_values : (values : Elements) → SpellsAll 1 values (drop at bytes) → FirstValue bytes at
    by_values Nil all = absurd (omega (arith, there, length-drop at bytes, ap length all))
    by_values (More e values) all =
        let behind : drop (at + length all.0) bytes ≡ all.1 = sym (drop-drop (length all.0) at bytes) ∙ ap (λ (l : List ℕ). drop (length all.0) l) all.4 ∙ drop-append_seam all.0 all.1 in
        record {
          value = e;
          spelling = all.0;
          spells = all.2;
          stands = record {
            split = all.4 ∙ ap (λ (l : List ℕ). all.0 ++ l) (sym behind);
            there = omega (arith, there, length-drop at bytes, ap length all.4, length-append all.0 all.1);
          };
          behind = (values, subst (λ (l : List ℕ). SpellsAll 1 values l) (sym behind) all.3);
        }
