-- Worlds that no file describes, each near the base world, which one does: a name whose text and key part, and other
-- things that a reader refuses. And what is printed of exclusions and numbers.
use Rattle.std.specs.Prelude.{◌≡◌, true, false, [], ◌∷◌, ◌++◌}
use Rattle.std.specs.Str.{chars}
use Rattle.std.proofs.Common.{refl}
use Rattle.caseless.proofs.Computing.{caseless}
use lib.Chars.{codes}
use lib.Utf8.{encode}
use Rattle.x5_model.specs.Values.{Name, Unknown}
use Rattle.x5_model.specs.Types.{is_type}
use Rattle.x5_model.specs.Normal.{folded}
use Rattle.x5_model_tree.specs.World.{World}
use Rattle.x5_model_tree.specs.Described.{is_stored, is_stored_world, is_kept, is_agent_name, is_reference, are_listed}
use Rattle.x5_model_tree.specs.Described.{has_network}
use Rattle.x5_model_output.specs.Output.{attribute_problem, operation_word, exclusions_text}
use Rattle.x5_model_rows.proofs.Literals.{rdn, text, one, class, named}
use Rattle.x5_model_rows.proofs.BaseWorld.{nl, lab_rdn, shop_rdn, nl_context, to_acme, alpha, beta, gamma, delta}
use Rattle.x5_model_rows.proofs.BaseWorld.{epsilon, first_agreement, no_outages, world_of, base_world}

-- printed `/C=ZZ`, and compared as `/C=NL`
abbrev forged : Name
forged = rdn 6 (codes "ZZ") (codes "nl") ∷ []

pub forged_name : is_stored forged ≡ false
unfolding caseless folded chars encode
forged_name = refl

pub honest_name : is_stored nl ≡ true
unfolding caseless folded chars encode
honest_name = refl

abbrev forged_world : World
forged_world =
    world_of ((record alpha { contexts = (record nl_context { prefix = forged }) ∷ [] }) ∷ beta ∷ gamma ∷ delta
    ∷ epsilon ∷ []) (first_agreement ∷ [])

pub forged_prefix : is_stored_world forged_world ≡ false
unfolding caseless folded chars encode
forged_prefix = refl

-- a value printed as another than that which it's compared by
abbrev forged_value : World
forged_value =
    world_of ((record alpha {
      contexts = (record nl_context
          { entries = named nl (class 2 ∷ one 6 (text (codes "ZZ") (codes "nl")) ∷ []) ∷ [] }) ∷ [];
    }) ∷ beta ∷ gamma
    ∷ delta ∷ epsilon ∷ []) (first_agreement ∷ [])

pub forged_entry : is_stored_world forged_value ≡ false
unfolding caseless folded chars encode
forged_entry = refl

-- 17 RDNs
abbrev deep : Name
deep = nl ++ nl ++ nl ++ nl ++ nl ++ nl ++ nl ++ nl ++ nl ++ nl ++ nl ++ nl ++ nl ++ nl ++ nl ++ nl ++ nl

pub too_deep : is_stored deep ≡ false
unfolding caseless folded chars encode
too_deep = refl

-- an entry without an object class, and one with two values of a single-valued type
pub no_class : is_kept (named nl (one 6 (text (codes "NL") (codes "nl")) ∷ [])) ≡ false
no_class = refl

pub two_countries : is_kept
    (named nl (class 2 ∷ (record {
      kind = 6;
      values = text (codes "BE") (codes "be") ∷ text (codes "NL") (codes "nl") ∷ [];
    }) ∷ [])) ≡ false
two_countries = refl

-- no agent is called like the user
pub no_user : is_agent_name (codes "user") ≡ false
no_user = refl

-- nine shadow agents
pub nine_shadows : is_reference base_world
    (record to_acme { access = record { master = 1; shadows = 4 ∷ 4 ∷ 4 ∷ 4 ∷ 4 ∷ 4 ∷ 4 ∷ 4 ∷ 4 ∷ [] } }) ≡ false
nine_shadows = refl

-- an order of the file that doesn't count the reference
pub not_counted : are_listed (record alpha { crosses = true ∷ [] }) ≡ false
not_counted = refl

-- a pair that is cut twice, in either order
pub cut_twice : has_network (record base_world { network = record no_outages { cut = (0, 1) ∷ (1, 0) ∷ [] } }) ≡ false
cut_twice = refl

-- CN goes by its number, not by its object identifier
pub one_type : is_type (Unknown (2 ∷ 5 ∷ 4 ∷ 3 ∷ [])) ≡ false
one_type = refl

pub another_type : is_type (Unknown (2 ∷ 5 ∷ 4 ∷ 99 ∷ [])) ≡ true
another_type = refl

-- exclusions in key order, whatever the message's order
pub less_in_order : exclusions_text (shop_rdn ∷ lab_rdn ∷ []) ≡ codes " less OU=Lab,OU=Shop"
less_in_order = refl

-- a number that stands for nothing has no word
pub no_problem : attribute_problem 7 ≡ []
no_problem = refl

pub no_operation : operation_word 3 ≡ []
no_operation = refl
