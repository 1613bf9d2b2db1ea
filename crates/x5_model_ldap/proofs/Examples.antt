-- Messages of real clients, computed: what they say, what they ask of the directory, and what they are answered. The
-- octets were sent by ldapsearch, ldapmodify and python-ldap; the trees have the places of their elements.
use Rattle.std.proofs.Common.{◌≡◌, true, false, [], ◌∷◌, refl}
use Rattle.std.specs.Prelude.{codes}
use Rattle.std.specs.Str.{chars, is_utf8}
use lib.Utf8.{encode}
use Rattle.std.specs.declared.option.Option.TheVariants.{None, Some}
use Rattle.std.specs.declared.result.Result.{Result}
use Rattle.std.specs.declared.result.Result.TheVariants.{Ok, Err}
use Rattle.x5_model.specs.Requests as requests
use Rattle.x5_model.specs.Filters as model
use Rattle.x5_model.specs.Values.{Known, TextValue}
use Rattle.x5_model.specs.Answers.{Answered, Failed, Matched, Changed, NoSuchObject}
use Rattle.x5_model.specs.Normal.{stored}
use Rattle.x5_model_octets.specs.Faults.{BadTag, BadContent}
use Rattle.x5_model_output.specs.Output.{Names}
use Rattle.x5_model_typed.specs.Trees.{Tree, Leaf, Branch, Bare, Row}
use Rattle.x5_model_typed.specs.Named.{LdapMessage}
use Rattle.x5_model_typed.specs.Layouts.{Surroundings, layout}
use Rattle.x5_model_typed.specs.Judged.{judged}
use Rattle.x5_model_ldap.specs.Messages.{Message, Bind, Unbind, Search, Delete, Compare, Modify, Present, Equality}
use Rattle.x5_model_ldap.specs.Messages.{And, Nil, More, Substrings, told, message_in}
use Rattle.x5_model_ldap.specs.Names.{name_of_dn, dn_of_name}
use Rattle.x5_model_ldap.specs.Asking.{Asks, Refused, End, asking, ask_of}
use Rattle.x5_model_ldap.specs.Answers.{refuse, respond}

nowhere : Surroundings
nowhere = record { moment = λ t. None; time = λ m. None; is_agent = λ a. false }

nobody : Names
nobody = record { agent = λ a. []; moment = λ m. [] }

-- an anonymous bind
bind_said : told 0 14 (judged (layout nowhere) (layout nowhere LdapMessage)
    (Branch 0 0 16 (Row (Leaf 2 0 2 (1 ∷ [])) (Row (Branch 5 1 0
    (Row (Leaf 7 0 2 (3 ∷ [])) (Row (Leaf 10 0 4 ([])) (Row (Leaf 12 2 0 ([])) Bare)))) Bare))))
    ≡ Ok (record { id = 1; critical = false; operation = Bind }, 14)
unfolding nowhere
bind_said = refl

bind_refused : refuse (layout nowhere) (record { id = 1; critical = false; operation = Bind }) 53
    ≡ 48 ∷ 12 ∷ 2 ∷ 1 ∷ 1 ∷ 97 ∷ 7 ∷ 10 ∷ 1 ∷ 53 ∷ 4 ∷ 0 ∷ 4 ∷ 0 ∷ []
unfolding nowhere
bind_refused = refl

-- python-ldap: search_s of c=NL, whole subtree, (cn=*), with cn and sn
search_said : told 0 42 (judged (layout nowhere) (layout nowhere LdapMessage)
    (Branch 0 0 16 (Row (Leaf 2 0 2 (1 ∷ [])) (Row (Branch 5 1 3
    (Row (Leaf 7 0 4 (99 ∷ 61 ∷ 78 ∷ 76 ∷ [])) (Row (Leaf 13 0 10 (2 ∷ []))
    (Row (Leaf 16 0 10 (0 ∷ [])) (Row (Leaf 19 0 2 (0 ∷ [])) (Row (Leaf 22 0 2 (5 ∷ []))
    (Row (Leaf 25 0 1 (0 ∷ [])) (Row (Leaf 28 2 7 (99 ∷ 110 ∷ []))
    (Row (Branch 32 0 16 (Row (Leaf 34 0 4 (99 ∷ 110 ∷ [])) (Row (Leaf 38 0 4 (115 ∷ 110 ∷ [])) Bare))) Bare)))))))))
    Bare))))
    ≡ Ok (
      record {
        id = 1;
        critical = false;
        operation = Search
            (record {
              base = codes "c=NL";
              scope = 2;
              size = 0;
              types_only = false;
              filter = Present (codes "cn");
              attributes
                  = codes "cn" ∷ codes "sn" ∷ [];
            });
      },
      42,
    )
unfolding nowhere
search_said = refl

search_asks : ask_of (record {
  id = 1;
  critical = false;
  operation = Search
      (record {
        base = codes "c=NL";
        scope = 2;
        size = 0;
        types_only = false;
        filter = Present (codes "cn");
        attributes
            = codes "cn" ∷ codes "sn" ∷ [];
      });
})
    ≡ Asks (asking None (requests.Search (stored (((6, codes "NL") ∷ []) ∷ [])) requests.WholeSubtree
    (model.Is (model.Present (Known 3))) (requests.Only (Known 3 ∷ Known 4 ∷ []))))
unfolding is_utf8 chars encode
search_asks = refl

-- python-ldap: the same with a critical control of paged results
critical_said : told 0 74 (judged (layout nowhere) (layout nowhere LdapMessage)
    (Branch 0 0 16 (Row (Leaf 2 0 2 (1 ∷ [])) (Row (Branch 5 1 3
    (Row (Leaf 7 0 4 (99 ∷ 61 ∷ 78 ∷ 76 ∷ [])) (Row (Leaf 13 0 10 (2 ∷ []))
    (Row (Leaf 16 0 10 (0 ∷ [])) (Row (Leaf 19 0 2 (0 ∷ [])) (Row (Leaf 22 0 2 (0 ∷ []))
    (Row (Leaf 25 0 1 (0 ∷ [])) (Row (Leaf 28 2 7 (99 ∷ 110 ∷ [])) (Row (Branch 32 0 16 Bare) Bare)))))))))
    (Row (Branch 34 2 0 (Row (Branch 36 0 16 (Row (Leaf 38 0 4
    (49 ∷ 46 ∷ 50 ∷ 46 ∷ 56 ∷ 52 ∷ 48 ∷ 46 ∷ 49 ∷ 49 ∷ 51 ∷ 53 ∷ 53 ∷ 54 ∷ 46 ∷ 49 ∷ 46 ∷ 52 ∷ 46 ∷ 51 ∷ 49 ∷ 57
    ∷ [])) (Row (Leaf 62 0 1 (255 ∷ [])) (Row (Leaf 65 0 4 (48 ∷ 5 ∷ 2 ∷ 1 ∷ 2 ∷ 4 ∷ 0 ∷ [])) Bare)))) Bare))
    Bare)))))
    ≡ Ok (
      record {
        id = 1;
        critical = true;
        operation = Search
            (record {
              base = codes "c=NL";
              scope = 2;
              size = 0;
              types_only = false;
              filter = Present (codes "cn");
              attributes
                  = [];
            });
      },
      74,
    )
unfolding nowhere
critical_said = refl

-- ldapmodify: increment is none of the changes
increment_said : told 0 52 (judged (layout nowhere) (layout nowhere LdapMessage)
    (Branch 0 0 16 (Row (Leaf 2 0 2 (2 ∷ [])) (Row (Branch 5 1 6
    (Row (Leaf 7 0 4 (99 ∷ 110 ∷ 61 ∷ 74 ∷ 97 ∷ 110 ∷ 44 ∷ 111 ∷ 117 ∷ 61 ∷ 76 ∷ 97 ∷ 98 ∷ 44 ∷ 111 ∷ 61 ∷ 65 ∷ 99
    ∷ 109 ∷ 101 ∷ 44 ∷ 99 ∷ 61 ∷ 78 ∷ 76 ∷ [])) (Row (Branch 34 0 16
    (Row (Branch 36 0 16 (Row (Leaf 38 0 10 (3 ∷ [])) (Row (Branch 41 0 16
    (Row (Leaf 43 0 4 (115 ∷ 110 ∷ [])) (Row (Branch 47 0 17 (Row (Leaf 49 0 4 (49 ∷ [])) Bare)) Bare))) Bare)))
    Bare)) Bare))) Bare))))
    ≡ Err (BadContent 38)
unfolding nowhere
increment_said = refl

-- ldapsearch -s children: no scope of this grammar
children_said : told 0 34 (judged (layout nowhere) (layout nowhere LdapMessage)
    (Branch 0 0 16 (Row (Leaf 2 0 2 (2 ∷ [])) (Row (Branch 5 1 3
    (Row (Leaf 7 0 4 (99 ∷ 61 ∷ 110 ∷ 108 ∷ [])) (Row (Leaf 13 0 10 (3 ∷ []))
    (Row (Leaf 16 0 10 (0 ∷ [])) (Row (Leaf 19 0 2 (0 ∷ [])) (Row (Leaf 22 0 2 (0 ∷ []))
    (Row (Leaf 25 0 1 (0 ∷ [])) (Row (Leaf 28 2 7 (99 ∷ 110 ∷ [])) (Row (Branch 32 0 16 Bare) Bare))))))))) Bare))))
    ≡ Err (BadContent 13)
unfolding nowhere
children_said = refl

-- ldapsearch (&): an empty set
always_said : told 0 32 (judged (layout nowhere) (layout nowhere LdapMessage)
    (Branch 0 0 16 (Row (Leaf 2 0 2 (2 ∷ [])) (Row (Branch 5 1 3
    (Row (Leaf 7 0 4 (99 ∷ 61 ∷ 110 ∷ 108 ∷ [])) (Row (Leaf 13 0 10 (2 ∷ []))
    (Row (Leaf 16 0 10 (0 ∷ [])) (Row (Leaf 19 0 2 (0 ∷ [])) (Row (Leaf 22 0 2 (0 ∷ []))
    (Row (Leaf 25 0 1 (0 ∷ [])) (Row (Branch 28 2 0 Bare) (Row (Branch 30 0 16 Bare) Bare))))))))) Bare))))
    ≡ Err (BadContent 28)
unfolding nowhere
always_said = refl

-- a compare
compare_said : told 0 22 (judged (layout nowhere) (layout nowhere LdapMessage)
    (Branch 0 0 16 (Row (Leaf 2 0 2 (1 ∷ [])) (Row (Branch 5 1 14
    (Row (Leaf 7 0 4 (67 ∷ 61 ∷ 78 ∷ 76 ∷ [])) (Row (Branch 13 0 16
    (Row (Leaf 15 0 4 (67 ∷ [])) (Row (Leaf 18 0 4 (110 ∷ 108 ∷ [])) Bare))) Bare))) Bare))))
    ≡ Ok (
      record {
        id = 1;
        critical = false;
        operation = Compare (codes "C=NL")
            (record { kind = codes "C"; value = codes "nl" });
      },
      22,
    )
unfolding nowhere
compare_said = refl

compare_true : respond (layout nowhere) nobody (record {
  id = 1;
  critical = false;
  operation = Compare (codes "C=NL")
      (record { kind = codes "C"; value = codes "nl" });
})
    (Answered (Matched true false (record { context = []; agent = 0; moment = None })))
    ≡ 48 ∷ 12 ∷ 2 ∷ 1 ∷ 1 ∷ 111 ∷ 7 ∷ 10 ∷ 1 ∷ 6 ∷ 4 ∷ 0 ∷ 4 ∷ 0 ∷ []
unfolding nowhere nobody
compare_true = refl

delete_absent : respond (layout nowhere) nobody (record {
  id = 2;
  critical = false;
  operation = Delete
      (codes "O=None");
}) (Failed (NoSuchObject []))
    ≡ 48 ∷ 12 ∷ 2 ∷ 1 ∷ 2 ∷ 107 ∷ 7 ∷ 10 ∷ 1 ∷ 32 ∷ 4 ∷ 0 ∷ 4 ∷ 0 ∷ []
unfolding nowhere nobody
delete_absent = refl

-- names: escapes, several pairs in any order, and what is refused
escapes : name_of_dn (codes "cn=a\\2Cb\\+c,o=x + y#") ≡ None
unfolding is_utf8 chars encode
escapes = refl

spaces : name_of_dn (codes "cn=a\\2Cb\\+c,o=x y#") ≡ Some (((10, codes "x y#") ∷ []) ∷ ((3, codes "a,b+c") ∷ []) ∷ [])
unfolding is_utf8 chars encode
spaces = refl

pairs : name_of_dn (codes "OU=z+commonName=y") ≡ Some (((3, codes "y") ∷ (11, codes "z") ∷ []) ∷ [])
unfolding is_utf8 chars encode
pairs = refl

root : name_of_dn [] ≡ Some []
root = refl

back : dn_of_name (((10, codes "#x ") ∷ []) ∷ ((3, codes "a,b+c") ∷ []) ∷ []) ≡ codes "CN=a\\,b\\+c,O=\\#x\\ "
back = refl
