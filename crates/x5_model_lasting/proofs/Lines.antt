-- What tests say of lines they say of more lines: each is shown for one line in front, and then for as many as there
-- are, by recursion.
use Rattle.std.proofs.Common.{◌≡◌, ℕ, Bool, true, false, not, ◌&&◌, ◌||◌, if◌then◌else◌, inl, inr, List, [], ◌∷◌, ◌++◌, refl, sym, subst, Option, Some, None}
use Rattle.x5_model.specs.Words.{in_option, first_of}
use Rattle.x5_model.specs.Values.{key_of}
use Rattle.x5_model.specs.References.{Reference}
use Rattle.x5_model.proofs.Lists.{both_true, and_true, either_true, or_left, or_right}
use Rattle.x5_model_run.specs.Network.{is_sent}
use Rattle.x5_model_run.specs.Journal.{Line, Journal, is_wide, same_sender, some_line, opened_by}
use Rattle.x5_model_run.specs.Needs.{falls_short}
use Rattle.x5_model_run.specs.Chain.{Scene, asks_by, is_asked, is_in_vain, is_cleared, is_passed}
use Rattle.x5_model_run.specs.Blocked.{hears_by, IsUntried, IsLost, Blocked}
use Rattle.x5_model_run.specs.Thorough.{is_taken, is_sent_by, sends_itself, sender_follows}
use Rattle.x5_model_run.proofs.Growing.{vain_grows, lost_grows, untried_grows, blocked_grows}
use Rattle.x5_model_serve.specs.Claims.{Grows}
use Rattle.x5_model_lasting.specs.Lasting.{HeardStays, SomeLineStays, InVainStays, ClearedStays, PassedStays, TakenStays, UntriedStays, LostStays, BlockedStays}

-- ---- from one line to more

module _ (holds : List Line → Type 0) (more : (l : Line) (lines : List Line) → holds lines → holds (l ∷ lines)) where
  pub over : (new lines : List Line) → holds lines → holds (new ++ lines)
  over [] lines h = h
  over (x ∷ new) lines h = more x (new ++ lines) (over new lines h)

  pub grown : (i j : Journal) → Grows i j → holds i.lines → holds j.lines
  grown i j g h = subst holds (sym g.1) (over g.0 i.lines h)

pub some_more : (f g : Line → List Line → Bool) → ((l : Line) (before : List Line) → f l before ≡ true → g l before ≡ true)
    → (lines : List Line) → some_line f lines ≡ true → some_line g lines ≡ true
some_more f g h [] e = e
some_more f g h (l ∷ lines) e = elim (either_true (f l lines) (some_line f lines) e) [
  | inl x ↦ or_left (g l lines) (some_line g lines) (h l lines x)
  | inr x ↦ or_right (g l lines) (some_line g lines) (some_more f g h lines x)
]

-- ---- who was heard

pub heard_stays : HeardStays
heard_stays test q = grown (λ lines. hears_by test q lines ≡ true) (λ l lines e. or_right _ _ e)

pub some_line_stays : SomeLineStays
some_line_stays test = grown (λ lines. some_line test lines ≡ true) (λ l lines e. or_right _ _ e)

-- ---- who was asked

pub vain_stays : InVainStays
vain_stays s o r a = grown (λ lines. is_in_vain s lines o r a ≡ true) (λ l lines e. vain_grows s lines l o r a e)

cleared_more : (s : Scene) (number : ℕ) (r : Reference) (a : ℕ) (l : Line) (lines : List Line)
    → is_cleared s lines number r a ≡ true → is_cleared s (l ∷ lines) number r a ≡ true
cleared_more s number r a l lines e =
    let b = both_true (is_asked is_sent lines number r a) (falls_short (s.holdings a) (key_of r.target) r.progress) e in
    and_true (is_asked is_sent (l ∷ lines) number r a) (falls_short (s.holdings a) (key_of r.target) r.progress) (or_right _ _ b.0) b.1

pub cleared_stays : ClearedStays
cleared_stays s number r a = grown (λ lines. is_cleared s lines number r a ≡ true) (cleared_more s number r a)

passed_more : (s : Scene) (o : Line) (r : Reference) (a : ℕ) (l : Line) (lines : List Line)
    → is_passed s lines o r a ≡ true → is_passed s (l ∷ lines) o r a ≡ true
passed_more s o r a l lines e = elim (either_true (is_in_vain s lines o r a) (is_wide r.kind && is_cleared s lines o.number r a) e) [
  | inl v ↦ or_left (is_in_vain s (l ∷ lines) o r a) (is_wide r.kind && is_cleared s (l ∷ lines) o.number r a)
      (vain_grows s lines l o r a v)
  | inr c ↦ (let b = both_true (is_wide r.kind) (is_cleared s lines o.number r a) c in
      or_right (is_in_vain s (l ∷ lines) o r a) (is_wide r.kind && is_cleared s (l ∷ lines) o.number r a)
      (and_true (is_wide r.kind) (is_cleared s (l ∷ lines) o.number r a) b.0 (cleared_more s o.number r a l lines b.1)))
]

pub passed_stays : PassedStays
passed_stays s o r a = grown (λ lines. is_passed s lines o r a ≡ true) (passed_more s o r a)

-- ---- what was taken

sent_more : (l : Line) (sender : Option ℕ) (r : Reference) (x : Line) (lines : List Line)
    → is_sent_by lines l sender r ≡ true → is_sent_by (x ∷ lines) l sender r ≡ true
sent_more l sender r x lines e = by (first_of r.agents) e
  where
    by : (o : Option ℕ)
        → in_option true (λ a. some_line (λ e before. asks_by r a e &&
        (same_sender e.sender sender && opened_by l.number before e)) lines) o ≡ true
        → in_option true (λ a. some_line (λ e before. asks_by r a e && (same_sender e.sender sender && opened_by l.number before e))
        (x ∷ lines)) o ≡ true
    by None f = refl
    by (Some a) f = or_right _ _ f

taken_more : (s : Scene) (l : Line) (r : Reference) (x : Line) (lines : List Line) → is_taken s lines l r ≡ true
    → is_taken s (x ∷ lines) l r ≡ true
taken_more s l r x lines e = by (sends_itself s l r) e
  where
    by : (b : Bool) → (if b then is_sent_by lines l (Some l.receiver) r else not
        (sender_follows s l) || is_sent_by lines l l.sender r) ≡ true
        → (if b then is_sent_by (x ∷ lines) l (Some l.receiver) r else not (sender_follows s l) || is_sent_by
        (x ∷ lines) l l.sender r) ≡ true
    by true f = sent_more l (Some l.receiver) r x lines f
    by false f = elim (either_true (not (sender_follows s l)) (is_sent_by lines l l.sender r) f) [
      | inl g ↦ or_left (not (sender_follows s l)) (is_sent_by (x ∷ lines) l l.sender r) g
      | inr g ↦ or_right (not (sender_follows s l)) (is_sent_by (x ∷ lines) l l.sender r) (sent_more l l.sender r x lines g)
    ]

pub taken_stays : TakenStays
taken_stays s l r = grown (λ lines. is_taken s lines l r ≡ true) (taken_more s l r)

-- ---- what blocks a reference

pub untried_stays : UntriedStays
untried_stays s q r = grown (λ lines. IsUntried s q lines r) (λ l lines t. untried_grows s q lines l r t)

pub lost_stays : LostStays
lost_stays s q r = grown (λ lines. IsLost s q lines r) (λ l lines t. lost_grows s q lines l r t)

pub blocked_stays : BlockedStays
blocked_stays s q r = grown (λ lines. Blocked s q lines r) (λ l lines t. blocked_grows s q lines l r t)
