-- Whatever a line of a script asks for is within the limits: each word is read as something within them, and a request
-- is made of these.
use Rattle.std.proofs.Common.{◌≡◌, ℕ, ◌+◌, ◌^◌, Bool, true, false, not, ◌&&◌, nat_lt, All, List, [], ◌∷◌, ◌++◌, length, map, drop, codes, refl, subst, Option, Some, None, Result, Ok, Err, IfOk, if◌then◌else◌, cond}
use Rattle.std.specs.Prelude.{option_map, option_and_then, nat_eq}
use Rattle.std.specs.List.{list_any, slice_split, onto_first, starts_with, before_first, after_first}
use Rattle.std.specs.Result.{result_ok}
use Rattle.std.specs.Str.Parse.{digits_value}
use Rattle.std.proofs.lemmas.Bool.{ltb-true, lt-ltb}
use Rattle.std.proofs.lemmas.List.Elements.{All-nil, All-cons}
use Rattle.std.proofs.lemmas.List.Quantifiers.{position-Some}
use Rattle.x5_model.specs.Words.{is_empty, first_of, same_octets}
use Rattle.x5_model.specs.Members.{here, there}
use Rattle.x5_model.specs.Values.{Text, TypeRef, Value, Offered, Name}
use Rattle.x5_model.specs.Assertions.{assertion_of, offered}
use Rattle.x5_model.specs.Filters.{Filter}
use Rattle.x5_model.specs.Statics.{same_type}
use Rattle.x5_model.specs.Requests as ask
use Rattle.x5_model.proofs.Lists.{both_true}
use Rattle.x5_model_run.specs.Network as network
use Rattle.x5_model_run.specs.Run as run
use Rattle.x5_model_text.specs.TypeText.{type_of_text}
use Rattle.x5_model_text.specs.NameText.{value_of_text}
use Rattle.x5_model_text.specs.Filters.{filter_of_text}
use Rattle.x5_names.specs.Reading.{stored_name_of_text, stored_rdn_of_text}
use Rattle.x5_model_script.specs.Words.{Fault, Long, BadWord, BadName, BadFilter, BadHex, ◌>>=◌, or_fault, Word, Left, words_of, sound, peeked, next, skipped, ended}
use Rattle.x5_model_script.specs.Texts as texts
use Rattle.x5_model_script.specs.Lines as lines
use Rattle.x5_model_script.specs.Lines.{Asked, Runs, Delivers, reading, gathered, gather, controls, operation, requested, agent, one_agent, two_agents, is_silent, line_of}
use Rattle.x5_model_script.specs.Script.{most_lines, line_at, loses_reply, within_losses, line_behind, lost_behind, with_others, lines_of, lines_from}
use Rattle.x5_model_tree.specs.Described.{most_lost_replies}
use Rattle.x5_model_fitting.specs.Names.{Each, RdnWithin, NameWithin}
use Rattle.x5_model_fitting.specs.Terms.{TypeWithin, ValueWithin, OfferedWithin, AttributeWithin}
use Rattle.x5_model_fitting.specs.Filters.{FilterWithin, most_levels}
use Rattle.x5_model_fitting.specs.Requests.{CountWithin, IfThere, SelectionWithin, ChangeWithin, ControlsWithin, BodyWithin}
use Rattle.x5_model_within.specs.Scripts.{BoundedAsked, ScriptsBounded}
use Rattle.x5_model_limits.proofs.Lists.{each_none, each_one, each_both, each_map}
use Rattle.x5_model_within.proofs.Texts.{type_within, value_within, name_within, rdn_within}
use Rattle.x5_model_within.proofs.Filters.{filter_within}

-- ---- what holds of what is read holds through a step

whatever : {A B : Type 0} (P : B → Type 0) (r : Result A Fault) (f : A → Result B Fault) → ((x : A) → IfOk (f x) P)
    → IfOk (r >>= f) P
whatever P (Err e) f h = tt
whatever P (Ok x) f h = h x

given : {A B : Type 0} (P : B → Type 0) (Q : A → Type 0) (r : Result A Fault) (f : A → Result B Fault) → IfOk r Q
    → ((x : A) → Q x → IfOk (f x) P) → IfOk (r >>= f) P
given P Q (Err e) f q h = tt
given P Q (Ok x) f q h = h x q

either : {A : Type 0} (P : A → Type 0) (b : Bool) (r s : Result A Fault) → IfOk r P → IfOk s P
    → IfOk (if b then r else s) P
either P true r s p q = p
either P false r s p q = q

-- whatever is there is so
abbrev Gives : {A : Type 0} → (A → Type 0) → Option A → Type 0
Gives {A} P o = (x : A) → o ≡ Some x → P x

found : {A B : Type 0} (P : A → Type 0) (Q : B → Type 0) (fault : Fault) (o : Option A) (f : A → Result B Fault)
    → Gives P o → ((x : A) → P x → IfOk (f x) Q) → IfOk (or_fault fault o >>= f) Q
found P Q fault None f g h = tt
found P Q fault (Some x) f g h = h x (g x refl)

gives_ok : {A E : Type 0} (P : A → Type 0) (r : Result A E) → IfOk r P → Gives P (result_ok r)
gives_ok P (Ok y) h x e = (let same : y ≡ x = cc in subst P same h)
gives_ok P (Err y) h x e = absurd (cc e)

gives_if : {A : Type 0} (P : A → Type 0) (b : Bool) (o p : Option A) → Gives P o → Gives P p
    → Gives P (if b then o else p)
gives_if P true o p g h x e = g x e
gives_if P false o p g h x e = h x e

gives_none : {A : Type 0} (P : A → Type 0) → Gives P None
gives_none P x e = absurd (cc e)

gives_then : {A B : Type 0} (P : B → Type 0) (o : Option A) (f : A → Option B)
    → ((a : A) → o ≡ Some a → Gives P (f a)) → Gives P (option_and_then f o)
gives_then P None f h x e = absurd (cc e)
gives_then P (Some a) f h x e = h a refl x e

gives_map : {A B : Type 0} (P : B → Type 0) (o : Option A) (f : A → B) → ((a : A) → o ≡ Some a → P (f a))
    → Gives P (option_map f o)
gives_map P None f h x e = absurd (cc e)
gives_map P (Some a) f h x e = (let same : f a ≡ x = cc in subst P same (h a refl))

each_cons : {A : Type 0} (P : A → Type 0) (x : A) (xs : List A) → P x → Each P xs → Each P (x ∷ xs)
each_cons P x xs h k = each_both P (x ∷ []) xs (each_one P x h) k

-- ---- lists that are read

module _ {X Y : Type 0} (P : Y → Type 0) (read : X → Option Y) (so : (x : X) → Gives P (read x)) where
  -- of one member at least, where one is read
  pub record SomeOf (xs : List X) (ys : List Y) : Type 0 where
    pub each : Each P ys
    pub some : is_empty ys ≡ is_empty xs

  pub all_given : (xs : List X) → Gives (SomeOf xs) (texts.all_of read xs)
  all_given [] =
      λ ys e.
      (let same : [] ≡ ys = cc in subst (SomeOf []) same (record { each = each_none P; some = refl }))
  all_given (x ∷ xs) =
      gives_then (SomeOf (x ∷ xs)) (read x) (λ y. option_map (λ ys. y ∷ ys) (texts.all_of read xs))
      (λ y e. gives_map (SomeOf (x ∷ xs)) (texts.all_of read xs) (λ ys. y ∷ ys)
      (λ ys f. record { each = each_cons P y ys (so x y e) (all_given xs ys f).each; some = refl }))

split_some : (p : ℕ → Bool) (t : Text) → is_empty (slice_split p t) ≡ false
split_some p [] = refl
split_some p (b ∷ t) = by (p b)
  where
    first : (parts : List Text) → is_empty (onto_first b parts) ≡ false
    first [] = refl
    first (u ∷ us) = refl

    by : (c : Bool) → is_empty (cond c ([] ∷ slice_split p t) (onto_first b (slice_split p t))) ≡ false
    by true = refl
    by false = first (slice_split p t)

-- ---- words

value_given : (kind : TypeRef) (t : Text) → Gives ValueWithin (texts.value_in kind t)
value_given kind t = gives_ok ValueWithin (value_of_text kind t) (value_within kind t)

types_given : (t : Text) → Gives (Each TypeWithin) (texts.types_in t)
types_given t =
    gives_if (Each TypeWithin) (is_empty t) (Some []) (texts.all_of type_of_text (slice_split texts.is_comma t))
    (λ ts e. (let same : [] ≡ ts = cc in subst (Each TypeWithin) same (each_none TypeWithin)))
    (λ ts e. (all_given TypeWithin type_of_text type_within (slice_split texts.is_comma t) ts e).each)

attrs_given : (t : Text) → Gives (Each TypeWithin) (texts.attrs_in t)
attrs_given t =
    gives_if (Each TypeWithin) (starts_with nat_eq t (codes "attrs=")) (texts.types_in (drop 6 t)) None
    (types_given (drop 6 t)) (gives_none (Each TypeWithin))

abbrev PairWithin : TypeRef × Value → Type 0
PairWithin p = TypeWithin p.0 × ValueWithin p.1

pair_given : (t : Text) → Gives PairWithin (texts.pair_in t)
pair_given t =
    let left : Text = before_first texts.is_equals t in
    let right : Text = after_first texts.is_equals t in
    gives_if PairWithin (list_any texts.is_equals t) (option_and_then (texts.pair_for right) (type_of_text left)) None
    (gives_then PairWithin (type_of_text left) (texts.pair_for right)
    (λ kind e. gives_map PairWithin (texts.value_in kind right) (λ v. (kind, v))
    (λ v f. (type_within left kind e, value_given kind right v f))))
    (gives_none PairWithin)

offered_within : (kind : TypeRef) (v : Value) → ValueWithin v → OfferedWithin kind (offered kind v)
offered_within kind v h = record { value = h; normal = refl }

attribute_within : (kind : TypeRef) (t : Text) → TypeWithin kind → Gives AttributeWithin (texts.attribute_for t kind)
attribute_within kind t w =
    gives_map AttributeWithin (texts.values_in kind t) (texts.attribute_of kind)
    (λ vs e.
    let all = all_given ValueWithin (texts.value_in kind) (value_given kind) (slice_split texts.is_comma t) vs e in
    record {
      type = w;
      some = some vs (slice_split texts.is_comma t) all.some (split_some texts.is_comma t);
      values = each_map (OfferedWithin kind) (offered kind) vs (λ v i. offered_within kind v (all.each v i));
    })
  where
    some : (vs : List Value) (ts : List Text) → is_empty vs ≡ is_empty ts → is_empty ts ≡ false
        → is_empty (map (offered kind) vs) ≡ false
    some [] [] e f = f
    some [] (u ∷ us) e f = e
    some (v ∷ vs) ts e f = refl

attribute_given : (t : Text) → Gives AttributeWithin (texts.attribute_in t)
attribute_given t =
    let left : Text = before_first texts.is_equals t in
    let right : Text = after_first texts.is_equals t in
    gives_if AttributeWithin (list_any texts.is_equals t)
    (option_and_then (texts.attribute_for right) (type_of_text left)) None
    (gives_then AttributeWithin (type_of_text left) (texts.attribute_for right)
    (λ kind e. attribute_within kind right (type_within left kind e)))
    (gives_none AttributeWithin)

change_given : (t : Text) → Gives ChangeWithin (texts.change_in t)
change_given t =
    gives_if ChangeWithin (starts_with nat_eq t (codes "new:")) _ _
    (gives_map ChangeWithin (texts.attribute_in (drop 4 t)) ask.AddAttribute (attribute_given (drop 4 t)))
    (gives_if ChangeWithin (starts_with nat_eq t (codes "drop:")) _ _
    (gives_map ChangeWithin (type_of_text (drop 5 t)) ask.RemoveAttribute (type_within (drop 5 t)))
    (gives_if ChangeWithin (starts_with nat_eq t (codes "put:")) _ _
    (gives_map ChangeWithin (texts.attribute_in (drop 4 t)) ask.AddValues (attribute_given (drop 4 t)))
    (gives_if ChangeWithin (starts_with nat_eq t (codes "cut:")) _ None
    (gives_map ChangeWithin (texts.attribute_in (drop 4 t)) ask.RemoveValues (attribute_given (drop 4 t)))
    (gives_none ChangeWithin))))

number_given : (most : ℕ) (t : Text) → Gives CountWithin (texts.number_in most t)
number_given most t = by (texts.is_numeral most t && nat_lt (digits_value 10 t) (2 ^ 32)) refl
  where
    by : (b : Bool) → (texts.is_numeral most t && nat_lt (digits_value 10 t) (2 ^ 32)) ≡ b
        → Gives CountWithin (if b then Some (digits_value 10 t) else None)
    by true q n e =
        let same : digits_value 10 t ≡ n = cc in
        subst CountWithin same (ltb-true (digits_value 10 t) (2 ^ 32)
        (both_true (texts.is_numeral most t) (nat_lt (digits_value 10 t) (2 ^ 32)) q).1)
    by false q n e = absurd (cc e)

size_given : (t : Text) → Gives CountWithin (texts.size_in t)
size_given t =
    gives_if CountWithin (starts_with nat_eq t (codes "size=")) (texts.number_in 10 (drop 5 t)) None
    (number_given 10 (drop 5 t)) (gives_none CountWithin)

-- ---- words one by one

abbrev First : {A : Type 0} → (A → Type 0) → A × Left → Type 0
First P y = P y.0

reading_within : {A : Type 0} (P : A → Type 0) (read : Text → Option A) (fault : ℕ → Fault) (left : Left)
    → ((t : Text) → Gives P (read t)) → IfOk (reading read fault left) (First P)
reading_within P read fault left so =
    whatever (First P) (next left) (λ w. or_fault (fault w.0.column) (read w.0.text) >>= (λ x. Ok (x, w.1)))
    (λ w. found P (First P) (fault w.0.column) (read w.0.text) (λ x. Ok (x, w.1)) (so w.0.text) (λ x h. h))

name_read : (left : Left) → IfOk (lines.name left) (First NameWithin)
name_read left =
    reading_within NameWithin texts.name_in BadName left
    (λ t. gives_ok NameWithin (stored_name_of_text t) (name_within t))

rdn_read : (left : Left) → IfOk (reading texts.rdn_in BadName left) (First RdnWithin)
rdn_read left =
    reading_within RdnWithin texts.rdn_in BadName left (λ t. gives_ok RdnWithin (stored_rdn_of_text t) (rdn_within t))

filter_read : (left : Left) → IfOk (reading texts.filter_in BadFilter left) (First (FilterWithin most_levels))
filter_read left =
    reading_within (FilterWithin most_levels) texts.filter_in BadFilter left
    (λ t. gives_ok (FilterWithin most_levels) (filter_of_text t) (filter_within t))

selection_read : (left : Left) → IfOk (lines.selection left) (First SelectionWithin)
selection_read left = by (first_of left.words)
  where
    by : (o : Option Word) → IfOk (lines.selection_by o left) (First SelectionWithin)
    by None = tt
    by (Some w) =
        given (First SelectionWithin) (First (Each TypeWithin)) (reading texts.attrs_in BadWord left)
        (λ a. Ok (ask.Only a.0, a.1))
        (reading_within (Each TypeWithin) texts.attrs_in BadWord left attrs_given) (λ a h. h)

-- all words that are left
module _ {A B : Type 0} (P : A → Type 0) (Q : B → Type 0) (read : Text → Option A) (put : A → B → B)
    (so : (t : Text) → Gives P (read t)) (keeps : (x : A) (b : B) → P x → Q b → Q (put x b)) where
  all_gathered : (ws : List Word) (before : B) → Q before → IfOk (gathered read put before ws) Q
  all_gathered [] before h = h
  all_gathered (w ∷ ws) before h =
      whatever Q (sound w)
      (λ word. or_fault (BadWord word.column) (read word.text) >>= (λ x. gathered read put (put x before) ws))
      (λ word. found P Q (BadWord word.column) (read word.text) (λ x. gathered read put (put x before) ws)
      (so word.text)
      (λ x p. all_gathered ws (put x before) (keeps x before p h)))

  gather_within : (before : B) (left : Left) → Q before → IfOk (gather read put before left) (First Q)
  gather_within before left h =
      given (First Q) Q (gathered read put before left.words) (λ all. Ok (all, record { words = []; end = left.end }))
      (all_gathered left.words before h) (λ all k. k)

-- ---- attributes and changes

value_behind : (v : Value) (a : ask.Attribute) → ValueWithin v → AttributeWithin a
    → AttributeWithin (lines.one_more v a)
value_behind v a h w = record {
  type = w.type;
  some = some a.values;
  values = each_both (OfferedWithin a.kind) a.values (offered a.kind v ∷ []) w.values
      (each_one (OfferedWithin a.kind) (offered a.kind v) (offered_within a.kind v h));
}
  where
    some : (os : List Offered) → is_empty (os ++ offered a.kind v ∷ []) ≡ false
    some [] = refl
    some (o ∷ os) = refl

value_put : (kind : TypeRef) (v : Value) (given : List ask.Attribute) → TypeWithin kind → ValueWithin v
    → Each AttributeWithin given → Each AttributeWithin (lines.with_value kind v given)
value_put kind v [] w h each =
    each_one AttributeWithin (record { kind = kind; values = offered kind v ∷ [] })
    (record {
      type = w;
      some = refl;
      values = each_one (OfferedWithin kind) (offered kind v) (offered_within kind v h);
    })
value_put kind v (a ∷ others) w h each =
    by (same_type a.kind kind) (value_put kind v others w h rest)
  where
    rest : Each AttributeWithin others
    rest x i = each x (there i)

    first : AttributeWithin a
    first = each a here

    by : (b : Bool) → Each AttributeWithin (lines.with_value kind v others)
        → Each AttributeWithin (if b then lines.one_more v a ∷ others else (a ∷ lines.with_value kind v others))
    by true later = each_cons AttributeWithin (lines.one_more v a) others (value_behind v a h first) rest
    by false later = each_cons AttributeWithin a (lines.with_value kind v others) first later

attributes_read : (left : Left) → IfOk (lines.attributes left) (First (Each AttributeWithin))
attributes_read left =
    gather_within PairWithin (Each AttributeWithin) texts.pair_in lines.with_pair pair_given
    (λ p before h each. value_put p.0 p.1 before h.0 h.1 each) [] left (each_none AttributeWithin)

changes_read : (first : ask.Change) (left : Left) → ChangeWithin first
    → IfOk (lines.changes first left) (First (Each ChangeWithin))
changes_read first left h =
    gather_within ChangeWithin (Each ChangeWithin) texts.change_in lines.with_change change_given
    (λ c before k each. each_both ChangeWithin before (c ∷ []) each (each_one ChangeWithin c k)) (first ∷ []) left
    (each_one ChangeWithin first h)

-- ---- operations

abbrev IsBody : ask.Body × Left → Type 0
IsBody y = BodyWithin y.0

abbrev by_name : (Name → ask.Body) → Name × Left → Result (ask.Body × Left) Fault
by_name f object = Ok (f object.0, object.1)

read_within : (left : Left) → IfOk (lines.read left) IsBody
read_within left =
    given IsBody (First NameWithin) (lines.name left)
    (λ object. lines.selection object.1 >>= (λ shown. Ok (ask.Read object.0 shown.0, shown.1))) (name_read left)
    (λ object n. given IsBody (First SelectionWithin) (lines.selection object.1)
    (λ shown. Ok (ask.Read object.0 shown.0, shown.1)) (selection_read object.1) (λ shown s. (n, s)))

compare_within : (left : Left) → IfOk (lines.compare left) IsBody
compare_within left =
    given IsBody (First NameWithin) (lines.name left)
    (λ object. reading texts.pair_in BadWord object.1
    >>= (λ pair. Ok (ask.Compare object.0 (assertion_of pair.0.0 pair.0.1), pair.1))) (name_read left)
    (λ object n. given IsBody (First PairWithin) (reading texts.pair_in BadWord object.1)
    (λ pair. Ok (ask.Compare object.0 (assertion_of pair.0.0 pair.0.1), pair.1))
    (reading_within PairWithin texts.pair_in BadWord object.1 pair_given)
    (λ pair h. (n, record { type = h.0; value = h.1; normal = refl })))

list_within : (left : Left) → IfOk (lines.list left) IsBody
list_within left =
    given IsBody (First NameWithin) (lines.name left) (by_name ask.ListBelow) (name_read left) (λ object n. n)

remove_within : (left : Left) → IfOk (lines.remove left) IsBody
remove_within left =
    given IsBody (First NameWithin) (lines.name left) (by_name ask.RemoveEntry) (name_read left) (λ object n. n)

abbrev searched : ask.Subset → Name → Filter → ask.Selection × Left → Result (ask.Body × Left) Fault
searched subset base filter shown = Ok (ask.Search base subset filter shown.0, shown.1)

abbrev filtered : ask.Subset → Name → Filter × Left → Result (ask.Body × Left) Fault
filtered subset base filter = lines.selection filter.1 >>= searched subset base filter.0

abbrev based : ask.Subset → Name × Left → Result (ask.Body × Left) Fault
based subset base = reading texts.filter_in BadFilter base.1 >>= filtered subset base.0

search_within : (left : Left) → IfOk (lines.search left) IsBody
search_within left =
    whatever IsBody (reading texts.subset_in BadWord left) (λ subset. lines.name subset.1 >>= based subset.0)
    (λ subset. given IsBody (First NameWithin) (lines.name subset.1) (based subset.0) (name_read subset.1)
    (λ base n. given IsBody (First (FilterWithin most_levels)) (reading texts.filter_in BadFilter base.1)
    (filtered subset.0 base.0) (filter_read base.1)
    (λ filter f. given IsBody (First SelectionWithin) (lines.selection filter.1) (searched subset.0 base.0 filter.0)
    (selection_read filter.1) (λ shown s. (n, f, s)))))

add_within : (left : Left) → IfOk (lines.add left) IsBody
add_within left =
    given IsBody (First NameWithin) (lines.name left)
    (λ object. lines.attributes object.1 >>= (λ all. Ok (ask.AddEntry object.0 all.0, all.1))) (name_read left)
    (λ object n. given IsBody (First (Each AttributeWithin)) (lines.attributes object.1)
    (λ all. Ok (ask.AddEntry object.0 all.0, all.1)) (attributes_read object.1) (λ all h. (n, h)))

abbrev modified : Name → List ask.Change × Left → Result (ask.Body × Left) Fault
modified object all = Ok (ask.ModifyEntry object all.0, all.1)

abbrev changed_from : Name → ask.Change × Left → Result (ask.Body × Left) Fault
changed_from object first = lines.changes first.0 first.1 >>= modified object

modify_within : (left : Left) → IfOk (lines.modify left) IsBody
modify_within left =
    given IsBody (First NameWithin) (lines.name left)
    (λ object. reading texts.change_in BadWord object.1 >>= changed_from object.0) (name_read left)
    (λ object n. given IsBody (First ChangeWithin) (reading texts.change_in BadWord object.1) (changed_from object.0)
    (reading_within ChangeWithin texts.change_in BadWord object.1 change_given)
    (λ first c. given IsBody (First (Each ChangeWithin)) (lines.changes first.0 first.1) (modified object.0)
    (changes_read first.0 first.1 c) (λ all h. (n, h))))

move_within : (left : Left) → IfOk (lines.move left) IsBody
move_within left =
    given IsBody (First NameWithin) (lines.name left)
    (λ object. reading texts.rdn_in BadName object.1
    >>= (λ rdn. lines.moved object.0 rdn.0 (skipped (codes "drop") rdn.1))) (name_read left)
    (λ object n. given IsBody (First RdnWithin) (reading texts.rdn_in BadName object.1)
    (λ rdn. lines.moved object.0 rdn.0 (skipped (codes "drop") rdn.1)) (rdn_read object.1) (λ rdn h. (n, h)))

update_within : (w : Word) (left : Left) → IfOk (lines.update_by w left) IsBody
update_within w left =
    either IsBody (same_octets w.text (codes "add")) _ _ (add_within left)
    (either IsBody (same_octets w.text (codes "remove")) _ _ (remove_within left)
    (either IsBody (same_octets w.text (codes "modify")) _ _ (modify_within left)
    (either IsBody (same_octets w.text (codes "move")) _ _ (move_within left) tt)))

operation_within : (left : Left) → IfOk (operation left) IsBody
operation_within left =
    whatever IsBody (next left) (λ w. lines.operation_by w.0 w.1)
    (λ w. either IsBody (same_octets w.0.text (codes "read")) _ _ (read_within w.1)
    (either IsBody (same_octets w.0.text (codes "compare")) _ _ (compare_within w.1)
    (either IsBody (same_octets w.0.text (codes "list")) _ _ (list_within w.1)
    (either IsBody (same_octets w.0.text (codes "search")) _ _ (search_within w.1) (update_within w.0 w.1)))))

-- ---- requests

size_within : (o : Option ℕ) (left : Left) → Gives CountWithin o → IfThere CountWithin (lines.sized_by o left).0
size_within None left h = tt
size_within (Some n) left h = h n refl

sized_within : (left : Left) → IfThere CountWithin (lines.sized left).0
sized_within left =
    size_within (option_and_then texts.size_in (peeked left)) left
    (gives_then CountWithin (peeked left) texts.size_in (λ t e. size_given t))

controls_within : (left : Left) → ControlsWithin (controls left).0
controls_within left = sized_within (skipped (codes "nochain") (skipped (codes "nocopy") left).1).1

-- what is asked for in a world whose agents have these names
abbrev Fits : List Text → Asked → Type 0
Fits names = BoundedAsked (length names)

abbrev IsAgent : List Text → ℕ → Type 0
IsAgent names a = nat_lt a (length names) ≡ true

agent_read : (names : List Text) (left : Left) → IfOk (agent names left) (First (IsAgent names))
agent_read names left =
    reading_within (IsAgent names) (texts.agent_in names) BadName left
    (λ t a e. lt-ltb a (length names) (position-Some (λ n. same_octets n t) names a [] e).0)

abbrev asks : ℕ → ask.Controls × Left → ask.Body × Left → Unit {0} → Result Asked Fault
asks to asked body nothing = Ok (Runs (run.Asks to (record { controls = asked.0; body = body.0 })))

request_within : (names : List Text) (left : Left) → IfOk (lines.request names left) (Fits names)
request_within names left =
    given (Fits names) (First (IsAgent names)) (agent names left) (λ to. requested to.0 (controls to.1))
    (agent_read names left)
    (λ to at. given (Fits names) IsBody (operation (controls to.1).1)
    (λ body. ended body.1 >>= asks to.0 (controls to.1) body)
    (operation_within (controls to.1).1)
    (λ body b. whatever (Fits names) (ended body.1) (asks to.0 (controls to.1) body)
    (λ nothing. (at, record { controls = controls_within to.1; body = b }))))

-- ---- what carries no request

abbrev changes_one : (ℕ → network.Outage) → ℕ → Result Asked Fault
changes_one change a = Ok (Runs (run.Changes (change a)))

abbrev changes_both : (ℕ → ℕ → network.Outage) → ℕ × ℕ → Result Asked Fault
changes_both change both = Ok (Runs (run.Changes (change both.0 both.1)))

one_within : (change : ℕ → network.Outage) (names : List Text) (left : Left)
    → IfOk (lines.outage change names left) (Fits names)
one_within change names left = whatever (Fits names) (one_agent names left) (changes_one change) (λ a. tt)

both_within : (change : ℕ → ℕ → network.Outage) (names : List Text) (left : Left)
    → IfOk (lines.pair change names left) (Fits names)
both_within change names left = whatever (Fits names) (two_agents names left) (changes_both change) (λ both. tt)

outage_within : (names : List Text) (w : Word) (left : Left) → IfOk (lines.outage_by names w left) (Fits names)
outage_within names w left =
    let P = Fits names in
    either P (same_octets w.text (codes "down")) _ _ (one_within network.Down names left)
    (either P (same_octets w.text (codes "up")) _ _ (one_within network.Up names left)
    (either P (same_octets w.text (codes "refuse")) _ _ (one_within network.Refuse names left)
    (either P (same_octets w.text (codes "willing")) _ _ (one_within network.Willing names left)
    (either P (same_octets w.text (codes "cut")) _ _ (both_within network.Cut names left)
    (either P (same_octets w.text (codes "join")) _ _ (both_within network.Join names left) tt)))))

abbrev refreshes : ℕ → Bool → Bool → Unit {0} → Result Asked Fault
refreshes id pushes total nothing = Ok (Runs (run.Updates id pushes total))

refresh_within : (names : List Text) (pushes : Bool) (left : Left) → IfOk (lines.refresh pushes left) (Fits names)
refresh_within names pushes left =
    let P = Fits names in
    whatever P (reading texts.agreement_in BadWord left)
    (λ id. reading texts.strategy_in BadWord id.1 >>= (λ total. ended total.1 >>= refreshes id.0 pushes total.0))
    (λ id. whatever P (reading texts.strategy_in BadWord id.1)
    (λ total. ended total.1 >>= refreshes id.0 pushes total.0)
    (λ total. whatever P (ended total.1) (refreshes id.0 pushes total.0) (λ nothing. tt)))

abbrev loses : Bool → ℕ → Unit {0} → Result Asked Fault
loses reply k nothing = Ok (Runs (run.Drops reply k))

lose_within : (names : List Text) (left : Left) → IfOk (lines.lose left) (Fits names)
lose_within names left =
    let P = Fits names in
    whatever P (reading texts.loss_kind_in BadWord left)
    (λ reply. reading texts.loss_in BadWord reply.1 >>= (λ k. ended k.1 >>= loses reply.0 k.0))
    (λ reply. whatever P (reading texts.loss_in BadWord reply.1) (λ k. ended k.1 >>= loses reply.0 k.0)
    (λ k. whatever P (ended k.1) (loses reply.0 k.0) (λ nothing. tt)))

abbrev delivers : Bool → ℕ → List ℕ → Unit {0} → Result Asked Fault
delivers dsp to octets nothing = Ok (Delivers dsp to octets)

abbrev octets_behind : Bool → ℕ → Left → Result Asked Fault
octets_behind dsp to left =
    reading texts.octets_in BadHex left >>= (λ octets. ended octets.1 >>= delivers dsp to octets.0)

deliver_within : (names : List Text) (left : Left) → IfOk (lines.deliver names left) (Fits names)
deliver_within names left =
    let P = Fits names in
    whatever P (reading texts.protocol_in BadWord left)
    (λ dsp. agent names dsp.1 >>= (λ to. octets_behind dsp.0 to.0 to.1))
    (λ dsp. given P (First (IsAgent names)) (agent names dsp.1) (λ to. octets_behind dsp.0 to.0 to.1)
    (agent_read names dsp.1)
    (λ to at. whatever P (reading texts.octets_in BadHex to.1)
    (λ octets. ended octets.1 >>= delivers dsp.0 to.0 octets.0)
    (λ octets. whatever P (ended octets.1) (delivers dsp.0 to.0 octets.0) (λ nothing. at))))

-- ---- lines

command_within : (names : List Text) (left : Left) → IfOk (lines.command names left) (Fits names)
command_within names left =
    let P = Fits names in
    whatever P (next left) (λ w. lines.command_by names w.0 w.1)
    (λ w. either P (same_octets w.0.text (codes "at")) _ _ (request_within names w.1)
    (either P (same_octets w.0.text (codes "pull")) _ _ (refresh_within names false w.1)
    (either P (same_octets w.0.text (codes "push")) _ _ (refresh_within names true w.1)
    (either P (same_octets w.0.text (codes "lose")) _ _ (lose_within names w.1)
    (either P (same_octets w.0.text (codes "deliver")) _ _ (deliver_within names w.1)
    (outage_within names w.0 w.1))))))

line_within : (names : List Text) (line : Text) → IfOk (line_of names line) (Fits names)
line_within names line =
    let P = Fits names in
    either P (nat_lt lines.most_octets (length line)) _ _ tt
    (either P (is_silent line) _ _ tt (command_within names (words_of line)))

behind_within : (names : List Text) (before lost : ℕ) (line : Text)
    → IfOk (line_behind names before lost line) (Fits names)
behind_within names before lost line =
    let P = Fits names in
    given P P (line_at names before line) (within_losses lost)
    (either P (nat_lt before most_lines) (line_of names line) (Err Long) (line_within names line) tt)
    (λ asked h. either P (loses_reply asked && not (nat_lt lost most_lost_replies)) (Err Long) (Ok asked) tt h)

one_more : (names : List Text) (number : ℕ) (r : Result Asked Fault) (more : Result (List Asked) (ℕ × Fault))
    → IfOk r (Fits names) → IfOk more (All (Fits names)) → IfOk (with_others number r more) (All (Fits names))
one_more names number (Err fault) more h m = tt
one_more names number (Ok asked) (Ok others) h m = All-cons (Fits names) asked others h m
one_more names number (Ok asked) (Err fault) h m = tt

lines_within : (names : List Text) (before lost : ℕ) (rest : List Text)
    → IfOk (lines_from names before lost rest) (All (Fits names))
lines_within names before lost [] = All-nil (Fits names)
lines_within names before lost (line ∷ rest) =
    let r = line_behind names before lost line in
    one_more names (before + 1) r (lines_from names (before + 1) (lost_behind lost r) rest)
    (behind_within names before lost line) (lines_within names (before + 1) (lost_behind lost r) rest)

pub scripts_bounded : ScriptsBounded
scripts_bounded names lost octets = lines_within names 0 lost (lines_of octets)
