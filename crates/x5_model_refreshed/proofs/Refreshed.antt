-- The line after a refresh, by computing: the refresh is the newest deed, which changes the stamp of its agreement alone; the
-- tree and the knowledge stay, and so does the tree of each moment before.
use Rattle.std.proofs.Common.{◌≡◌, ◌≢◌, ℕ, suc, ◌+◌, ◌-◌, ◌≤◌, ◌==◌, Bool, true, false, inl, inr, List, [], ◌∷◌, ◌++◌, length, drop, refl, sym, ap, subst, ◌∙◌, arith, Option, Some, None}
use Rattle.x5_model.specs.Words.{when, first_of, in_option}
use Rattle.x5_model.specs.Values.{Name, key_of}
use Rattle.x5_model.specs.Keys.{Key}
use Rattle.x5_model.specs.Entries.{Named}
use Rattle.x5_model.proofs.Lists.{true_or_false}
use Rattle.x5_model.proofs.Decide.{nat_same_decides}
use Rattle.x5_model_tree.specs.World.{Agent, Agreement, World}
use Rattle.x5_model_tree.specs.Tree.{part}
use Rattle.x5_model_tree.specs.Masters.{Mastered, agent_at}
use Rattle.x5_model_run.specs.Holdings.{Held}
use Rattle.x5_model_run.specs.History.{Refreshed, Did, Point, tree_by, tree_of_moment, knowledge_at, sent_references, mastered_at, refreshes_of, stamp_of, as_of, copy_as_of}
use Rattle.x5_model_refreshed.specs.Refreshed.{after_refresh, CopyIsStamped, OtherStampsStay, MasterIsCopied, CopyIsCopied, AreAsBefore, AllElseStays}

-- ---- stamps

first_is : (b : Bool) (f : Refreshed) (rest : List Refreshed) → b ≡ true → stamp_of (first_of (when b f ++ rest)) ≡ Some f.stamp
first_is true f rest e = refl
first_is false f rest e = cc

first_passes : (b : Bool) (f : Refreshed) (rest : List Refreshed) → b ≡ false → stamp_of (first_of (when b f ++ rest)) ≡ stamp_of (first_of rest)
first_passes true f rest e = cc
first_passes false f rest e = refl

same : (n : ℕ) → (n == n) ≡ true
same n = grind arith

differ : (a b : ℕ) → b ≢ a → (a == b) ≡ false
differ a b d = elim (true_or_false (a == b)) [ inl e ↦ absurd (d (sym ((nat_same_decides a b).0 e))) | inr e ↦ e ]

pub copy_is_stamped : CopyIsStamped
copy_is_stamped p f sent = first_is (f.agreement == f.agreement) f (refreshes_of p.past f.agreement) (same f.agreement)

pub other_stamps_stay : OtherStampsStay
other_stamps_stay p f sent number d =
    first_passes (f.agreement == number) f (refreshes_of p.past number) (differ f.agreement number d)

-- ---- the tree of a moment

none_dropped : (d : Did) (past : List Did) → drop (suc (length past) - (length past + 1)) (d ∷ past) ≡ d ∷ past
none_dropped d past = (let e : suc (length past) - (length past + 1) ≡ 0 = omega arith in rw e refl)

earlier : (d : Did) (past : List Did) (n : ℕ) → n ≤ length past → drop (suc (length past) - n) (d ∷ past) ≡ drop (length past - n) past
earlier d past n h = (let e : suc (length past) - n ≡ suc (length past - n) = omega arith in rw e refl)

-- ---- copies

-- a copy with these entries, by knowledge
abbrev pub copy_with : World → Name → Key → List Named → Held
copy_with w prefix key entries =
    in_option (record { prefix = prefix; entries = entries; subordinate = []; nssrs = [] })
    (λ c. record { prefix = prefix; entries = entries; subordinate = sent_references w c entries; nssrs = c.context.nssrs }) (mastered_at w key)

pub spelled : (w : World) (before after : Name) (key : Key) (entries : List Named) (x : Option Mastered)
    → in_option {Y = Held} (record { prefix = after; entries = entries; subordinate = []; nssrs = [] })
    (λ (c : Mastered). record { prefix = after; entries = entries; subordinate = sent_references w c entries; nssrs = c.context.nssrs }) x
    ≡ record (in_option {Y = Held} (record { prefix = before; entries = entries; subordinate = []; nssrs = [] })
    (λ (c : Mastered). record { prefix = before; entries = entries; subordinate = sent_references w c entries; nssrs = c.context.nssrs }) x) { prefix = after }
spelled w before after key entries None = refl
spelled w before after key entries (Some c) = refl

pub entries_are : (w : World) (prefix : Name) (entries : List Named) (x : Option Mastered)
    → (in_option {Y = Held} (record { prefix = prefix; entries = entries; subordinate = []; nssrs = [] })
    (λ (c : Mastered). record { prefix = prefix; entries = entries; subordinate = sent_references w c entries; nssrs = c.context.nssrs }) x).entries
    ≡ entries
entries_are w prefix entries None = refl
entries_are w prefix entries (Some c) = refl

module _ (p : Point) (f : Refreshed) (sent : ℕ) (g : Agreement) (by_it : g.number ≡ f.agreement) where
  stamped : as_of (after_refresh p f sent) g.number ≡ Some f.stamp
  stamped = subst (λ (n : ℕ). as_of (after_refresh p f sent) n ≡ Some f.stamp) (sym by_it) (copy_is_stamped p f sent)

  pub copied : copy_as_of (after_refresh p f sent) g (as_of (after_refresh p f sent) g.number)
      ≡ copy_with (knowledge_at p) g.context (key_of g.context) (part (tree_of_moment (after_refresh p f sent) f.stamp) (key_of g.context))
  copied = ap (λ (x : Option ℕ). copy_as_of (after_refresh p f sent) g x) stamped

pub master_is_copied : MasterIsCopied
master_is_copied p f sent g by_it now =
    ap (λ (h : Held). h.entries) (copied p f sent g by_it)
    ∙ entries_are (knowledge_at p) g.context (part (tree_of_moment (after_refresh p f sent) f.stamp) (key_of g.context)) (mastered_at (knowledge_at p) (key_of g.context))
    ∙ ap (λ (n : ℕ). part (tree_of_moment (after_refresh p f sent) n) (key_of g.context)) now
    ∙ ap (λ (past : List Did). part (tree_by p.described past) (key_of g.context)) (none_dropped _ p.past)

pub copy_is_copied : CopyIsCopied
copy_is_copied p f sent m own g by_it stamp at before keys =
    copied p f sent g by_it
    ∙ ap (λ (n : ℕ). copy_with (knowledge_at p) g.context (key_of g.context) (part (tree_of_moment (after_refresh p f sent) n) (key_of g.context))) stamp
    ∙ ap (λ (past : List Did). copy_with (knowledge_at p) g.context (key_of g.context) (part (tree_by p.described past) (key_of g.context))) (earlier _ p.past m before)
    ∙ ap (λ (k : Key). copy_with (knowledge_at p) g.context k (part (tree_of_moment p m) k)) (sym keys)
    ∙ spelled (knowledge_at p) own.context g.context (key_of own.context) (part (tree_of_moment p m) (key_of own.context)) (mastered_at (knowledge_at p) (key_of own.context))
    ∙ ap (λ (x : Option ℕ). record (copy_as_of p own x) { prefix = g.context }) (sym at)

-- ---- all else

pub all_else_stays : AllElseStays
all_else_stays p f sent agent = by (agent_at (knowledge_at p) agent) refl
  where
    by : (x : Option Agent) → agent_at (knowledge_at p) agent ≡ x → AreAsBefore p f sent agent
    by None e = record { own = rw e refl; superior = rw e refl; root = rw e refl; cross = rw e refl }
    by (Some a) e = record { own = rw e refl; superior = rw e refl; root = rw e refl; cross = rw e refl }
