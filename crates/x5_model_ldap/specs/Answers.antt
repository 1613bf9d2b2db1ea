-- What a message is answered (RFC 4511, section 4.1.9 and appendix A): for a search an entry each and then the result,
-- for any other operation the result.
use Rattle.std.specs.Prelude.{ℕ, Bool, true, false, ◌==◌, if◌then◌else◌, List, [], ◌∷◌, ◌++◌, map, codes, Option}
use Rattle.std.specs.Prelude.{None, Some}
use Rattle.std.specs.List.{find, flat_map}
use Rattle.x5_model.specs.Words.{in_option, sorted}
use Rattle.x5_model.specs.Values.{Text, written}
use Rattle.x5_model.specs.References.{Reference}
use Rattle.x5_model.specs.Answers.{Shown, EntryInfo, Outcome, Answer, EntryFound, Matched, Listed, Found, Changed}
use Rattle.x5_model.specs.Answers.{DirError, NoSuchObject, AttributeProblem, UpdateProblem, ServiceProblem}
use Rattle.x5_model.specs.Answers.{Reply, Answered, Failed, Referred}
use Rattle.x5_model_text.specs.TypeText.{text_of_type}
use Rattle.x5_model_typed.specs.Nodes.{Node, Octets, Chosen, Many, row, whole}
use Rattle.x5_model_typed.specs.Named.{LdapResponse}
use Rattle.x5_model_typed.specs.Forms.{Layout}
use Rattle.x5_model_typed.specs.Written.{canonical_octets}
use Rattle.x5_model_output.specs.Output.{Names, reference_text, reference_below}
use Rattle.x5_model_ldap.specs.Names.{dn_of_name}
use Rattle.x5_model_ldap.specs.Values.{octets_of}
use Rattle.x5_model_ldap.specs.Messages.{Operation, Bind, Unbind, Abandon, Extended, Search, Modify, Add, Delete}
use Rattle.x5_model_ldap.specs.Messages.{ModifyDn, Compare, Message}

-- a result: its code, the matched name, and a text
pub record Result : Type 0 where
  pub code : ℕ
  pub matched : Text
  pub message : Text

abbrev pub plain_result : ℕ → Result
plain_result code = record { code = code; matched = []; message = [] }

-- the code of a problem by its number; a problem that agents don't have is `other`
abbrev pub code_in : List (ℕ × ℕ) → ℕ → ℕ
code_in codes n = in_option 80 (λ p. p.1) (find (λ p. p.0 == n) codes)

abbrev pub attribute_codes : List (ℕ × ℕ)
attribute_codes = (1, 16) ∷ (2, 21) ∷ (3, 17) ∷ (5, 19) ∷ (6, 20) ∷ []

abbrev pub update_codes : List (ℕ × ℕ)
update_codes = (1, 64) ∷ (2, 65) ∷ (3, 66) ∷ (4, 67) ∷ (5, 68) ∷ (6, 71) ∷ (7, 69) ∷ []

-- unavailable, loopDetected and administrativeLimitExceeded; others are `other`
abbrev pub service_codes : List (ℕ × ℕ)
service_codes = (2, 52) ∷ (9, 54) ∷ (8, 11) ∷ []

-- references, with `; ` between two
abbrev pub references_behind : Names → List Reference → Text
references_behind names [] = []
references_behind names (r ∷ rs) = codes "; " ++ (reference_text names r ++ references_behind names rs)

abbrev pub references_text : Names → List Reference → Text
references_text names [] = []
references_text names (r ∷ rs) = reference_text names r ++ references_behind names rs

-- what nobody looked into comes before the limit
abbrev pub found_result : Names → Outcome → Result
found_result names o = by o.unexplored
  where
    by : List Reference → Result
    by [] = plain_result (if o.limited then 4 else 0)
    by (r ∷ rs) =
        record { code = 52; matched = []; message = references_text names (sorted (reference_below names) (r ∷ rs)) }

-- the reference stands in the text of 52 and 80 alone
abbrev pub service_result : Names → ℕ → Option Reference → Result
service_result names code None = plain_result code
service_result names code (Some r) =
    if (code == 52) then record { code = code; matched = []; message = reference_text names r }
    else if (code == 80) then record { code = code; matched = []; message = reference_text names r }
    else plain_result code

abbrev pub error_result : Names → DirError → Result
error_result names (NoSuchObject matched) = record { code = 32; matched = dn_of_name (written matched); message = [] }
error_result names (AttributeProblem n kind) = plain_result (code_in attribute_codes n)
error_result names (UpdateProblem n) = plain_result (code_in update_codes n)
error_result names (ServiceProblem n reference item) = service_result names (code_in service_codes n) reference

abbrev pub result_of : Names → Reply → Result
result_of names (Answered (Found infos sources o)) = found_result names o
result_of names (Answered (Listed subs sources o)) = found_result names o
result_of names (Answered (Matched true copy source)) = plain_result 6
result_of names (Answered (Matched false copy source)) = plain_result 5
result_of names (Answered answer) = plain_result 0
result_of names (Failed x) = error_result names x
result_of names (Referred r) = record { code = 80; matched = []; message = reference_text names r }

-- ---- as values of the table's types

-- an operation's response by its application tag; an unbind and an abandon have none
abbrev pub response_tag : Operation → ℕ
response_tag Bind = 1
response_tag Unbind = 0
response_tag Abandon = 0
response_tag Extended = 24
response_tag (Search s) = 5
response_tag (Modify object changes) = 7
response_tag (Add object attributes) = 9
response_tag (Delete object) = 11
response_tag (ModifyDn object rdn drops superior) = 13
response_tag (Compare object a) = 15

abbrev pub response_node : ℕ → ℕ → List Node → Node
response_node id tag ns = Many (row (whole id ∷ Chosen tag (Many (row ns)) ∷ []))

abbrev pub result_node : Message → Result → Node
result_node m r =
    response_node m.id (response_tag m.operation) (whole r.code ∷ Octets r.matched ∷ Octets r.message ∷ [])

abbrev pub shown_node : Shown → Node
shown_node a =
    Many (row (Octets (text_of_type a.kind) ∷ Many (row (map (λ v. Octets (octets_of v)) a.values)) ∷ []))

abbrev pub entry_node : Message → EntryInfo → Node
entry_node m info =
    response_node m.id 4 (Octets (dn_of_name (written info.name)) ∷ Many (row (map shown_node info.attributes)) ∷ [])

abbrev pub octets_of_node : Layout → Node → List ℕ
octets_of_node layout n = in_option [] (λ octets. octets) (canonical_octets layout LdapResponse n)

abbrev pub entries_of : Operation → Reply → List EntryInfo
entries_of (Search s) (Answered (Found infos sources o)) = infos
entries_of operation reply = []

-- the octets of what is answered, by a reply and by a refusal
abbrev pub respond : Layout → Names → Message → Reply → List ℕ
respond layout names m reply =
    flat_map (λ info. octets_of_node layout (entry_node m info)) (entries_of m.operation reply)
    ++ octets_of_node layout (result_node m (result_of names reply))

abbrev pub refuse : Layout → Message → ℕ → List ℕ
refuse layout m code = octets_of_node layout (result_node m (plain_result code))
