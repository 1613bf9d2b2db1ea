-- Messages taken apart: one of several by its tag, with the id and what the code names.
use Rattle.std.proofs.Common.{◌≡◌, ℕ, zero, suc, ◌<◌, Bool, true, false, cond, ◌==◌, nat_lt, List, [], ◌∷◌, refl, sym, ap, ◌∙◌, arith}
use Rattle.std.specs.Prelude.{ℤ, pos, negsuc}
use Rattle.std.specs.List.{find, list_all}
use Rattle.std.proofs.lemmas.Bool.{ltb-true, eqb-true}
use Rattle.std.specs.declared.option.Option.{Option}
use Rattle.std.specs.declared.option.Option.TheVariants.{None, Some}
use Rattle.x5_model.proofs.Lists.{both_true, of_all, of_find}
use Rattle.x5_model_typed.specs.Nodes.{Node, Nodes, Number, Chosen, Many, Nil, More, whole}
use Rattle.x5_model_typed.specs.Named as named
use Rattle.x5_model_typed.specs.Forms.{Explicit, Alternative, Layout, code}
use Rattle.x5_model_typed.specs.Typed.{named, required}
use Rattle.x5_model_typed.specs.Written.{is_made_of_members, can_hold, is_marked}
use Rattle.x5_model_typed.specs.Layouts as layouts
use Rattle.x5_model_typed.specs.Layouts.{Surroundings, layout, named_by, operation_codes}
use Rattle.x5_model_typed_laws.specs.Fits.{Fits, FitsIn, FitsSequence, left_out, given, over, whole as leaf, made, chosen, chosen_made}
use Rattle.x5_model_fitting.specs.Requests.{CountWithin}
use Rattle.x5_model_fitting.proofs.Taking.{first_in}
use Rattle.x5_model_fitting.proofs.LeavesSaid.{IsNumber, number_said}

-- ---- one of several, whose content is elements

pub record IsMarked (L : Layout) (types : List Alternative) (n : Node) : Type 0 where
  pub tag : ℕ
  pub members : Nodes
  pub is : n ≡ Chosen tag (Many members)
  pub alternative : Alternative
  pub found : find (is_marked tag) types ≡ Some alternative
  pub within : FitsIn L alternative.content members

pub marked_in : (L : Layout) (types : List Alternative) (n : Node) → list_all (λ a. a.marked) types ≡ true
    → list_all (λ a. is_made_of_members a.content) types ≡ true → Fits L types n → IsMarked L types n
marked_in L types n marked of_members (leaf a octets free held unmarked writes settles) =
    let m = of_all (λ (x : Alternative). x.marked) a types marked (of_find (can_hold n) a types held).0 in absurd
    (cc (unmarked, m))
marked_in L types _ marked of_members (made {ns} a held unmarked empty inside settles) =
    let m = of_all (λ (x : Alternative). x.marked) a types marked (of_find (can_hold (Many ns)) a types held).0 in
    absurd (cc (unmarked, m))
marked_in L types _ marked of_members (chosen a tag form found c f settles) =
    let m = of_all (λ (x : Alternative). is_made_of_members x.content) a types of_members
    (of_find (is_marked tag) a types found).0 in
    let none : is_made_of_members (Explicit form) ≡ true = ap is_made_of_members (sym c) ∙ m in
    absurd (cc none)
marked_in L types _ marked of_members (chosen_made {ns} a tag found inside settles) =
    record { tag = tag; members = ns; is = refl; alternative = a; found = found; within = inside }

pub only_marked : (a b : Alternative) (tag : ℕ) → find (is_marked tag) (a ∷ []) ≡ Some b → b ≡ a
only_marked a b tag h = by (is_marked tag a) h
  where
    by : (c : Bool) → cond c (Some a) None ≡ Some b → b ≡ a
    by true e = cc
    by false e = absurd (cc e)

-- ---- a code, and what it names

pub record IsCoded (L : Layout) (names : ℤ → Option named.Named) (ns : Nodes) : Type 0 where
  pub number : ℤ
  pub said : Node
  pub split : ns ≡ More (Number number) (More said Nil)
  pub form : named.Named
  pub names_it : names number ≡ Some form
  pub fits_said : Fits L (L form) said

pub coded_in : (L : Layout) (names : ℤ → Option named.Named) (ns : Nodes)
    → FitsSequence L (code named.AnyNumber names ∷ []) ns → IsCoded L names ns
coded_in L names _ (left_out d e f g) = absurd (cc e)
coded_in L names _ (given nd f (named k form is names_it) (left_out d e g h)) = absurd (cc e)
coded_in L names _ (given {n = c} nd f (named k form is names_it) (given {n = a} nd' f' required over)) = record {
  number = k;
  said = a;
  split = ap (λ (x : Node). More x (More a Nil)) is;
  form = form;
  names_it = names_it;
  fits_said = f';
}

pub record IsInvoke (w : Surroundings) (rows : List (ℕ × named.Named)) (ns : Nodes) : Type 0 where
  pub id : ℕ
  pub number : ℤ
  pub said : Node
  pub split : ns ≡ More (whole id) (More (Number number) (More said Nil))
  pub small : CountWithin id
  pub form : named.Named
  pub names_it : named_by rows number ≡ Some form
  pub fits_said : Fits (layout w) (layout w form) said

pub invoke_in : (w : Surroundings) (rows : List (ℕ × named.Named)) (ns : Nodes)
    → FitsSequence (layout w) (layouts.id ∷ code named.AnyNumber (named_by rows) ∷ []) ns → IsInvoke w rows ns
invoke_in w rows ns f =
    let i = first_in (layout w) (named.NumberBelow 0 4294967295) _ (IsNumber 0 4294967295) (number_said w 0 4294967295)
    ns f in
    let c = coded_in (layout w) (named_by rows) i.others i.rest in
    record {
      id = i.is.value;
      number = c.number;
      said = c.said;
      split = i.split ∙ ap (λ (x : Node). More x i.others) i.is.is ∙ ap (More (whole i.is.value)) c.split;
      small = omega (arith, i.is.most);
      form = c.form;
      names_it = c.names_it;
      fits_said = c.fits_said;
    }

-- ---- the codes of operations

abbrev pub code_of : named.Operation → ℕ
code_of named.Read = 1
code_of named.Compare = 2
code_of named.ListBelow = 4
code_of named.Search = 5
code_of named.AddEntry = 6
code_of named.RemoveEntry = 7
code_of named.ModifyEntry = 8
code_of named.ModifyDn = 9

pub record IsOperation (of : named.Operation → named.Named) (k : ℤ) (form : named.Named) : Type 0 where
  pub operation : named.Operation
  pub number : k ≡ pos (code_of operation)
  pub named_so : form ≡ of operation

-- the code is one of those that there are
pub code_below : (rows : List (ℕ × named.Named)) (m limit : ℕ) (form : named.Named)
    → list_all (λ r. nat_lt r.0 limit) rows ≡ true
    → named_by rows (pos m) ≡ Some form → m < limit
code_below [] m limit form h e = absurd (cc e)
code_below (r ∷ rows) m limit form h e =
    let v = both_true (nat_lt r.0 limit) (list_all (λ (x : ℕ × named.Named). nat_lt x.0 limit) rows) h in
    by (r.0 == m) refl e (ltb-true r.0 limit v.0) (λ f. code_below rows m limit form v.1 f)
  where
    by : (b : Bool) → (r.0 == m) ≡ b → cond b (Some r.1) (named_by rows (pos m)) ≡ Some form → r.0 < limit
        → (named_by rows (pos m) ≡ Some form → m < limit) → m < limit
    by true h e low later = (let same : r.0 ≡ m = eqb-true r.0 m h in omega (arith, low, same))
    by false h e low later = later e

some_same : (x form : named.Named) → (let o : Option named.Named = Some x in o) ≡ Some form → form ≡ x
some_same x form h = cc

pub operation_in : (of : named.Operation → named.Named) (k : ℤ) (form : named.Named)
    → named_by (operation_codes of) k ≡ Some form
    → IsOperation of k form
operation_in of (negsuc m) form e = absurd (cc e)
operation_in of (pos zero) form e = absurd (cc e)
operation_in of (pos (suc zero)) form e =
    record { operation = named.Read; number = refl; named_so = some_same (of named.Read) form e }
operation_in of (pos (suc (suc zero))) form e =
    record { operation = named.Compare; number = refl; named_so = some_same (of named.Compare) form e }
operation_in of (pos (suc (suc (suc zero)))) form e = absurd (cc e)
operation_in of (pos (suc (suc (suc (suc zero))))) form e =
    record { operation = named.ListBelow; number = refl; named_so = some_same (of named.ListBelow) form e }
operation_in of (pos (suc (suc (suc (suc (suc zero)))))) form e =
    record { operation = named.Search; number = refl; named_so = some_same (of named.Search) form e }
operation_in of (pos (suc (suc (suc (suc (suc (suc zero))))))) form e =
    record { operation = named.AddEntry; number = refl; named_so = some_same (of named.AddEntry) form e }
operation_in of (pos (suc (suc (suc (suc (suc (suc (suc zero)))))))) form e =
    record { operation = named.RemoveEntry; number = refl; named_so = some_same (of named.RemoveEntry) form e }
operation_in of (pos (suc (suc (suc (suc (suc (suc (suc (suc zero))))))))) form e =
    record { operation = named.ModifyEntry; number = refl; named_so = some_same (of named.ModifyEntry) form e }
operation_in of (pos (suc (suc (suc (suc (suc (suc (suc (suc (suc zero)))))))))) form e =
    record { operation = named.ModifyDn; number = refl; named_so = some_same (of named.ModifyDn) form e }
operation_in of (pos (suc (suc (suc (suc (suc (suc (suc (suc (suc (suc m))))))))))) form e =
    absurd (omega (
      arith,
      code_below (operation_codes of) (suc (suc (suc (suc (suc (suc (suc (suc (suc (suc m))))))))))
          10 form refl e,
    ))
