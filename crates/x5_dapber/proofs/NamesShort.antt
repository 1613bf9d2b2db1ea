-- The names of a request that octets spell are no longer than names may be.
use Rattle.std.proofs.Common.{◌≡◌, ℕ, ◌-◌, ◌≤◌, ◌==◌, Bool, true, false, List, [], ◌∷◌, ◌++◌, length, subst, arith, length-append}
use Rattle.std.specs.Prelude.{if◌then◌else◌}
use Rattle.std.proofs.lemmas.List.{length-map, length-take}
use Rattle.std.specs.declared.option.Option.{Option}
use Rattle.std.specs.declared.option.Option.TheVariants.{None, Some}
use Rattle.x5_model.specs.Normal.{most_rdns, stored_rdn}
use Rattle.x5_model.specs.Requests.{Body, Read, Compare, ListBelow, Search, AddEntry, RemoveEntry, ModifyEntry, ModifyDn}
use Rattle.x5_model.specs.Values.{Rdn, Name, name_above}
use Rattle.x5_model.specs.Words.{in_option}
use Rattle.x5_model_messages.specs.Requests.{two_of, three_of, four_of, five_of, body_in, request_in}
use Rattle.x5_model_messages.specs.Terms.{name_of, number_in}
use Rattle.x5_model_run.specs.Journal.{same_name}
use Rattle.x5_model_typed.specs.Nodes as nodes
use Rattle.x5_model_typed.specs.Nodes.{Node, Vacant, Flag, Number, Oid, Bits, Octets, Chosen, Many, Nil, More, parts}
use Rattle.x5_model_typed.specs.Rules.{rdn_in, name_in}
use Rattle.x5_dapber.specs.Sayable.{IsShortName, BeginShort, IsRequest}
use Rattle.x5_dapber.specs.ShortNames.{HasShortNames}

short_name : (n : Node) → IsShortName n → length (name_of n) ≤ most_rdns
short_name n h = omega (arith, h, length-map (name_in n) stored_rdn, length-map (parts n) rdn_in)

short_above : (name : Name) → length name ≤ most_rdns → length (name_above name) ≤ most_rdns
short_above name h = omega (arith, h, length-take (length name - 1) name)

-- the name above, and one RDN more
short_renamed : (name : Name) (rdn : Rdn) → length name ≤ most_rdns → length (name_above name ++ rdn ∷ []) ≤ most_rdns
short_renamed name rdn h =
    omega (arith, h, length-take (length name - 1) name, length-append (name_above name) (rdn ∷ []))

where_renamed : (b : Bool) (old name : Name) → length old ≤ most_rdns
    → (let o : Option Name = if b then None else Some old in o) ≡ Some name → length name ≤ most_rdns
where_renamed true old name h e = absurd (cc e)
where_renamed false old name h e = (let same : old ≡ name = cc in subst (λ (n : Name). length n ≤ most_rdns) same h)

no_name : (name : Name) → (let o : Option Name = None in o) ≡ Some name → length name ≤ most_rdns
no_name name e = absurd (cc e)

-- The first component of a body is its name.
abbrev name_in_body : Body → Name
name_in_body (Read name selection) = name
name_in_body (Compare name assertion) = name
name_in_body (ListBelow name) = name
name_in_body (Search base subset filter selection) = base
name_in_body (AddEntry name attributes) = name
name_in_body (RemoveEntry name) = name
name_in_body (ModifyEntry name changes) = name
name_in_body (ModifyDn name rdn drops) = name

short_body : (b : Body) → length (name_in_body b) ≤ most_rdns → HasShortNames b
short_body (Read name selection) h = record { target = h; new_name = no_name }
short_body (Compare name assertion) h = record { target = h; new_name = no_name }
short_body (ListBelow name) h = record { target = h; new_name = no_name }
short_body (Search base subset filter selection) h = record { target = h; new_name = no_name }
short_body (AddEntry name attributes) h = record {
  target = short_above name h;
  new_name = λ other e. where_renamed false name other h e;
}
short_body (RemoveEntry name) h = record { target = h; new_name = no_name }
short_body (ModifyEntry name changes) h = record { target = h; new_name = no_name }
short_body (ModifyDn name rdn drops) h = record {
  target = h;
  new_name = λ other e.
      where_renamed (same_name (name_above name ++ rdn ∷ []) name) (name_above name ++ rdn ∷ []) other (short_renamed name rdn h) e;
}

-- ---- what the components of an argument say

abbrev IsShortBody : Body → Type 0
IsShortBody b = length (name_in_body b) ≤ most_rdns

of_two : (f : Node → Body) → ((a : Node) → IsShortName a → IsShortBody (f a)) → (ns : List Node) → BeginShort ns
    → IsShortBody (two_of f ns)
of_two f h [] k = absurd k
of_two f h (a ∷ []) k = omega arith
of_two f h (a ∷ b ∷ []) k = h a k
of_two f h (a ∷ b ∷ c ∷ ns) k = omega arith

of_three : (f : Node → Node → Body) → ((a b : Node) → IsShortName a → IsShortBody (f a b)) → (ns : List Node) → BeginShort ns
    → IsShortBody (three_of f ns)
of_three f h [] k = absurd k
of_three f h (a ∷ []) k = omega arith
of_three f h (a ∷ b ∷ []) k = omega arith
of_three f h (a ∷ b ∷ c ∷ []) k = h a b k
of_three f h (a ∷ b ∷ c ∷ d ∷ ns) k = omega arith

of_four : (f : Node → Node → Node → Body) → ((a b c : Node) → IsShortName a → IsShortBody (f a b c)) → (ns : List Node)
    → BeginShort ns → IsShortBody (four_of f ns)
of_four f h [] k = absurd k
of_four f h (a ∷ []) k = omega arith
of_four f h (a ∷ b ∷ []) k = omega arith
of_four f h (a ∷ b ∷ c ∷ []) k = omega arith
of_four f h (a ∷ b ∷ c ∷ d ∷ []) k = h a b c k
of_four f h (a ∷ b ∷ c ∷ d ∷ e ∷ ns) k = omega arith

of_five : (f : Node → Node → Node → Node → Body) → ((a b c d : Node) → IsShortName a → IsShortBody (f a b c d))
    → (ns : List Node) → BeginShort ns → IsShortBody (five_of f ns)
of_five f h [] k = absurd k
of_five f h (a ∷ []) k = omega arith
of_five f h (a ∷ b ∷ []) k = omega arith
of_five f h (a ∷ b ∷ c ∷ []) k = omega arith
of_five f h (a ∷ b ∷ c ∷ d ∷ []) k = omega arith
of_five f h (a ∷ b ∷ c ∷ d ∷ e ∷ []) k = h a b c d k
of_five f h (a ∷ b ∷ c ∷ d ∷ e ∷ g ∷ ns) k = omega arith

one_of : (c : Bool) (x y : Body) → IsShortBody x → IsShortBody y → IsShortBody (if c then x else y)
one_of true x y h k = h
one_of false x y h k = k

body_short : (code : ℕ) (ns : List Node) → BeginShort ns → IsShortBody (body_in code ns)
body_short code ns h =
    one_of (code == 1) _ _ (of_three _ (λ a b k. short_name a k) ns h)
    (one_of (code == 2) _ _ (of_three _ (λ a b k. short_name a k) ns h)
    (one_of (code == 4) _ _ (of_two _ (λ a k. short_name a k) ns h)
    (one_of (code == 5) _ _ (of_five _ (λ a b c d k. short_name a k) ns h)
    (one_of (code == 6) _ _ (of_three _ (λ a b k. short_name a k) ns h)
    (one_of (code == 7) _ _ (of_two _ (λ a k. short_name a k) ns h)
    (one_of (code == 8) _ _ (of_three _ (λ a b k. short_name a k) ns h)
    (of_four _ (λ a b c k. short_name a k) ns h)))))))

pub argument_short : (code : ℕ) (ns : List Node) → BeginShort ns → HasShortNames (body_in code ns)
argument_short code ns h = short_body (body_in code ns) (body_short code ns h)

-- ---- messages

pub names_short : (n : Node) → IsRequest n → HasShortNames (request_in n).1.body
names_short (Chosen tag (Many (More id (More code (More argument Nil))))) h =
    argument_short (in_option 0 (λ k. k) (number_in code)) (parts argument) h.2.2
names_short (Chosen tag (Many (More id (More code (More argument (More more ns)))))) h = absurd h
names_short (Chosen tag (Many (More id (More code Nil)))) h = absurd h
names_short (Chosen tag (Many (More id Nil))) h = absurd h
names_short (Chosen tag (Many Nil)) h = absurd h
names_short (Chosen tag Vacant) h = absurd h
names_short (Chosen tag (Flag b)) h = absurd h
names_short (Chosen tag (Number k)) h = absurd h
names_short (Chosen tag (Oid arcs)) h = absurd h
names_short (Chosen tag (Bits b)) h = absurd h
names_short (Chosen tag (Octets o)) h = absurd h
names_short (Chosen tag (nodes.Text t)) h = absurd h
names_short (Chosen tag (Chosen other n)) h = absurd h
names_short Vacant h = absurd h
names_short (Flag b) h = absurd h
names_short (Number k) h = absurd h
names_short (Oid arcs) h = absurd h
names_short (Bits b) h = absurd h
names_short (Octets o) h = absurd h
names_short (nodes.Text t) h = absurd h
names_short (Many ns) h = absurd h
