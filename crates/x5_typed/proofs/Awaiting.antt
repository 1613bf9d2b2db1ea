-- What an element is to the components that are left: the first of them that has its tag, whatever the surroundings.
use Rattle.std.proofs.Common.{◌≡◌, ◌+◌, ℕ, Bool, true, false, List, [], ◌∷◌, map, drop, length, refl, sym, ap, ◌∙◌, Vec, Global}
use Rattle.std.proofs.lemmas.List.{length-map}
use Rattle.std.specs.Option.{is_some, MatchOption}
use Rattle.std.specs.declared.option.Option.{Option}
use Rattle.std.specs.declared.option.Option.TheVariants.{None, Some}
use Rattle.std.specs.declared.result.Result.{Result}
use Rattle.std.specs.declared.result.Result.TheVariants.{Ok, Err}
use Rattle.x5_model_typed.specs.Forms as forms
use Rattle.x5_model_typed.specs.Nodes as nodes
use Rattle.x5_model_typed.specs.Named as named
use Rattle.x5_model_octets.specs.Breaches as octet_breaches
use Rattle.x5_model_typed.specs.Judged as judged
use Rattle.x5_model_typed.specs.Layouts.{Surroundings, layout}
use Rattle.x5_types.specs.declared.form.Alternative.{Alternative}
use Rattle.x5_types.specs.declared.form.Choices.{Choices}
use Rattle.x5_types.specs.declared.form.Content.{Content}
use Rattle.x5_types.specs.declared.form.Content.TheVariants as contents
use Rattle.x5_types.specs.declared.node.Node.{Node}
use Rattle.x5_types.specs.FormView.{alternative_view, choices_view, components_view, content_view, nowhere}
use Rattle.x5_types.specs.NodeView.{option_view}
use Rattle.x5_typed.specs.declared.slots.Left.{Left}
use Rattle.x5_typed.specs.declared.slots.Step.{Step}
use Rattle.x5_typed.specs.declared.slots.Step.TheVariants as steps
use Rattle.x5_typed.specs.declared.state.State.{State}
use Rattle.x5_typed.specs.Breaches.{Gives}
use Rattle.x5_typed.specs.StateView.{Fits, IsState, SlotIs, left_view, step_view}

-- ---- whether a component has the tag

found_alike : {A B : Type 0} (view : A → B) (r : Option A) (m : Option B)
    → MatchOption r (m ≡ None) (λ a. m ≡ Some (view a)) → is_some m ≡ is_some r
found_alike view None m h = ap is_some h
found_alike view (Some a) m h = ap is_some h

pub component_is : (w : Surroundings) (class tag : ℕ) (c : forms.Component) (choices : Choices) (r : Option Alternative)
    (b : Bool) → choices_view w choices ≡ forms.alternatives (layout w) c
    → MatchOption r (forms.by_tag class tag (choices_view w choices) ≡ None)
    (λ a. forms.by_tag class tag (choices_view w choices) ≡ Some (alternative_view w a))
    → is_some r ≡ b → forms.is_component (layout w) class tag c ≡ b
component_is w class tag c choices r b types found e =
    ap (forms.may_be_tagged class tag) (sym types)
    ∙ found_alike (alternative_view w) r (forms.by_tag class tag (choices_view w choices)) found ∙ e

-- ---- in a SEQUENCE

abbrev Outcome : Type 0 → Type 0
Outcome X = Result X octet_breaches.Breach

passed : (p : forms.Presence) (tag : Option ℕ) (form : named.Named) (r : Outcome judged.Awaited) (at : ℕ)
    → judged.may_be_missing (record { tag = tag; form = form; presence = p }) ≡ true → judged.unless_required p r at ≡ r
passed (forms.Default d) tag form r at e = refl
passed forms.Required tag form r at e = absurd (cc e)
passed (forms.Code k) tag form r at e = absurd (cc e)

required : (p : forms.Presence) (tag : Option ℕ) (form : named.Named) (r : Outcome judged.Awaited) (at : ℕ)
    → judged.may_be_missing (record { tag = tag; form = form; presence = p }) ≡ false
    → judged.unless_required p r at ≡ judged.wrong_tag at
required (forms.Default d) tag form r at e = absurd (cc e)
required forms.Required tag form r at e = refl
required (forms.Code k) tag form r at e = refl

module _ (table : forms.Layout) (at class tag i : ℕ) (c : forms.Component) (cs : List forms.Component) where
  pub sequence_found : forms.is_component table class tag c ≡ true
      → judged.sequence_awaits table at class tag i (c ∷ cs)
      ≡ Ok (record { types = forms.alternatives table c; step = judged.InPlace i })
  sequence_found e = rw e refl

  pub sequence_ends : forms.is_component table class tag c ≡ false → judged.may_be_missing c ≡ false
      → judged.sequence_awaits table at class tag i (c ∷ cs) ≡ judged.wrong_tag at
  sequence_ends e f =
      rw e (required c.presence c.tag c.form (judged.sequence_awaits table at class tag (i + 1) cs) at f)

  pub sequence_goes_on : forms.is_component table class tag c ≡ false → judged.may_be_missing c ≡ true
      → judged.sequence_awaits table at class tag i (c ∷ cs) ≡ judged.sequence_awaits table at class tag (i + 1) cs
  sequence_goes_on e f =
      rw e (passed c.presence c.tag c.form (judged.sequence_awaits table at class tag (i + 1) cs) at f)

-- ---- in a SET

module _ (table : forms.Layout) (at class tag i : ℕ) (c : forms.Component) (cs : List forms.Component)
    (slots : List (Option nodes.Node)) where
  pub slot_taken : forms.is_component table class tag c ≡ true → SlotIs true i slots
      → judged.set_awaits table at class tag i (c ∷ cs) (drop i slots) ≡ judged.wrong_content at
  slot_taken e s = rw (s.1, e) refl

  pub slot_free : forms.is_component table class tag c ≡ true → SlotIs false i slots
      → judged.set_awaits table at class tag i (c ∷ cs) (drop i slots)
      ≡ Ok (record { types = forms.alternatives table c; step = judged.InSlot i })
  slot_free e s = rw (s, e) refl

  pub set_goes_on : (b : Bool) → forms.is_component table class tag c ≡ false → SlotIs b i slots
      → judged.set_awaits table at class tag i (c ∷ cs) (drop i slots)
      ≡ judged.set_awaits table at class tag (i + 1) cs (drop (i + 1) slots)
  set_goes_on true e s = rw (s.1, e) refl
  set_goes_on false e s = rw (s, e) refl

-- ---- where reading stands

pub next_fits : (step : Step) (s : State) → step_view step ≡ judged.Next → Fits step s
next_fits steps.Next s e = tt
next_fits (steps.InPlace i) s e = absurd (cc e)
next_fits (steps.InSlot i) s e = absurd (cc e)

pub state_at_first : (content : Content) (at : ℕ) (left : Left) (nodes : Vec Node Global)
    (slots : Vec (Option Node) Global)
    → map option_view slots.items ≡ judged.slots_in (content_view nowhere content)
    → left_view left ≡ judged.components_in (content_view nowhere content)
    → IsState (record { at = at; content = content; left = left; nodes = nodes; slots = slots; last = at })
state_at_first (contents.Set cs) at left nodes slots e f =
    sym (length-map slots.items option_view) ∙ ap length e ∙ length-map (components_view cs.now) (λ c. None)
    ∙ sym (ap length f)
state_at_first (contents.Sequence cs) at left nodes slots e f = tt
state_at_first (contents.Primitive leaf) at left nodes slots e f = tt
state_at_first (contents.Joined leaf) at left nodes slots e f = tt
state_at_first (contents.JoinedBits leaf) at left nodes slots e f = tt
state_at_first (contents.Explicit form) at left nodes slots e f = tt
state_at_first (contents.Members form) at left nodes slots e f = tt
state_at_first contents.Never at left nodes slots e f = tt

-- What the members leave ends as the content does.
pub content_read : (r : Outcome judged.State) (next place : ℕ) (s : judged.State) (value : Option Node)
    → Gives (λ (n : ℕ) t. (s ≡ t) × (n ≡ place)) r (Ok next) → option_view value ≡ judged.ended s
    → Gives (λ (m : Option Node × ℕ) t. (option_view m.0 ≡ judged.ended t) × (m.1 ≡ place)) r (Ok (value, next))
content_read (Ok t) next place s value h e = (e ∙ ap judged.ended h.0, h.1)
content_read (Err b) next place s value h e = absurd h
