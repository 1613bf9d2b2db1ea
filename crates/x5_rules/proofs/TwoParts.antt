-- Nodes that don't have two parts are no pairs, and no progress: case by case of how many they have.
use Rattle.std.proofs.Common.{◌≡◌, false, List, [], ◌∷◌, refl}
use Rattle.std.specs.declared.option.Option.TheVariants.{None}
use Rattle.x5_model_typed.specs.Nodes as nodes
use Rattle.x5_model_typed.specs.Rules as rules
use Rattle.x5_types.specs.NodeView.{IsNotTwo, none, one, three}

pub no_pair : (n : nodes.Node) (l : List nodes.Node) → nodes.parts n ≡ l → IsNotTwo l → rules.pair_in n ≡ (0, [])
no_pair n [] e none = rw e refl
no_pair n (a ∷ []) e one = rw e refl
no_pair n (a ∷ b ∷ c ∷ l) e three = rw e refl
no_pair n (a ∷ (b ∷ [])) e x = elim x [ ]

pub no_right_pair : (n : nodes.Node) (l : List nodes.Node) → nodes.parts n ≡ l → IsNotTwo l → rules.is_pair n ≡ false
no_right_pair n [] e none = rw e refl
no_right_pair n (a ∷ []) e one = rw e refl
no_right_pair n (a ∷ b ∷ c ∷ l) e three = rw e refl
no_right_pair n (a ∷ (b ∷ [])) e x = elim x [ ]

pub no_progress : (n : nodes.Node) (l : List nodes.Node) → nodes.parts n ≡ l → IsNotTwo l → rules.progress_rule n ≡ None
no_progress n [] e none = rw e refl
no_progress n (a ∷ []) e one = rw e refl
no_progress n (a ∷ b ∷ c ∷ l) e three = rw e refl
no_progress n (a ∷ (b ∷ [])) e x = elim x [ ]

pub pair_missing : (n : nodes.Node) → IsNotTwo (nodes.parts n) → rules.pair_in n ≡ (0, [])
pair_missing n x = no_pair n (nodes.parts n) refl x

pub pair_wrong : (n : nodes.Node) → IsNotTwo (nodes.parts n) → rules.is_pair n ≡ false
pair_wrong n x = no_right_pair n (nodes.parts n) refl x

pub progress_wrong : (n : nodes.Node) → IsNotTwo (nodes.parts n) → rules.progress_rule n ≡ None
progress_wrong n x = no_progress n (nodes.parts n) refl x

not_copy : (n : nodes.Node) (l : List nodes.Node) → nodes.parts n ≡ l → IsNotTwo l → rules.is_copy n ≡ false
not_copy n [] e none = rw e refl
not_copy n (a ∷ []) e one = rw e refl
not_copy n (a ∷ b ∷ c ∷ l) e three = rw e refl
not_copy n (a ∷ (b ∷ [])) e x = elim x [ ]

pub no_copy : (n : nodes.Node) → IsNotTwo (nodes.parts n) → rules.is_copy n ≡ false
no_copy n x = not_copy n (nodes.parts n) refl x

without_agents : (n : nodes.Node) (l : List nodes.Node) → nodes.parts n ≡ l → IsNotTwo l → rules.agents_of n ≡ []
without_agents n [] e none = rw e refl
without_agents n (a ∷ []) e one = rw e refl
without_agents n (a ∷ b ∷ c ∷ l) e three = rw e refl
without_agents n (a ∷ (b ∷ [])) e x = elim x [ ]

pub no_agents : (n : nodes.Node) → IsNotTwo (nodes.parts n) → rules.agents_of n ≡ []
no_agents n x = without_agents n (nodes.parts n) refl x

without_type : (n : nodes.Node) (l : List nodes.Node) → nodes.parts n ≡ l → IsNotTwo l → rules.attribute_type n ≡ 0
without_type n [] e none = rw e refl
without_type n (a ∷ []) e one = rw e refl
without_type n (a ∷ b ∷ c ∷ l) e three = rw e refl
without_type n (a ∷ (b ∷ [])) e x = elim x [ ]

pub no_type : (n : nodes.Node) → IsNotTwo (nodes.parts n) → rules.attribute_type n ≡ 0
no_type n x = without_type n (nodes.parts n) refl x
