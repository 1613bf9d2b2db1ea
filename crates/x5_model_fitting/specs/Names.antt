-- Texts, RDNs and names within the limits of messages: what the types of messages have room for, in the standard's
-- terms (X.501, sections 8 and 9; X.680, section 41). The numbers are this project's own.
use Rattle.std.specs.Prelude.{◌≡◌, ℕ, ◌<◌, ◌≤◌, Bool, true, List, length}
use Rattle.std.specs.List.{list_all}
use Rattle.std.specs.Str.{is_utf8}
use Rattle.std.specs.declared.option.Option.TheVariants.{None}
use Rattle.x5_model.specs.Members.{In}
use Rattle.x5_model.specs.Values.{Text, NameValue, Rdn, Name}
use Rattle.x5_model.specs.Normal.{most_octets, most_rdns, is_rdn, rdn_over, written_rdn, stored_rdn}

-- each member of a list is so
abbrev pub Each : {X : Type 0} → (X → Type 0) → List X → Type 0
Each {X} P xs = (x : X) → In x xs → P x

-- A text: one character at least, in UTF-8, of 1,024 octets at most.
pub record TextWithin (t : Text) : Type 0 where
  pub utf8 : is_utf8 t ≡ true
  pub some : 0 < length t
  pub short : length t ≤ most_octets

abbrev pub are_utf8 : List (ℕ × Text) → Bool
are_utf8 r = list_all (λ p. is_utf8 p.1) r

-- An RDN as it is written: one to four pairs, of types that may name, in the order of their numbers and each once; each
-- text is of its type's kind, in UTF-8, and has 1,024 octets at most.
pub record WrittenRdnWithin (r : List (ℕ × Text)) : Type 0 where
  pub valid : is_rdn r ≡ true
  pub short : rdn_over 0 r ≡ None
  pub utf8 : are_utf8 r ≡ true

-- A name as it is written: 16 RDNs at most.
pub record WrittenNameWithin (n : NameValue) : Type 0 where
  pub few : length n ≤ most_rdns
  pub rdns : Each WrittenRdnWithin n

-- An RDN with the normal forms of its texts.
pub record RdnWithin (r : Rdn) : Type 0 where
  pub is_written : WrittenRdnWithin (written_rdn r)
  pub normal : r ≡ stored_rdn (written_rdn r)

-- A name of such RDNs.
pub record NameWithin (n : Name) : Type 0 where
  pub few : length n ≤ most_rdns
  pub rdns : Each RdnWithin n
