-- The command line as it is told to `clap`: five subcommands with their arguments, no help and no version; and what
-- the matches of a subcommand say. This project's own.
use Rattle.std.specs.Prelude.{ℕ, Bool, true, false, List, ◌||◌, Option, Some, None, option_map, option_and_then}
use Rattle.std.specs.Prelude.{if◌then◌else◌, codes}
use Rattle.std.specs.Str.{bytes_eq}
use Rattle.clap.specs.Words.{App, Row, Rule, Text, new_app, new_rule, with_rule, with_subcommand, first_of}
use Rattle.clap.specs.declared.builder.action.ArgAction.TheVariants.{SetTrue}
use Rattle.clap.specs.declared.error.kind.ErrorKind.{ErrorKind}
use Rattle.clap.specs.declared.error.kind.ErrorKind.TheVariants.{OutOfMemory}
use Rattle.x5_words.specs.Forms.{FileNames, Form, Run, Check, Tree, GenRun, GenWorld, GenScript, Show, is_file_name}
use Rattle.x5_words.specs.Forms.{is_summary, number_in}

-- an argument by its place, which must be there
abbrev pub needed : Text → Rule
needed id = record (new_rule id) { required = true }

abbrev pub summary_flag : Rule
summary_flag = record (new_rule (codes "summary")) { long = Some (codes "summary"); action = Some SetTrue }

abbrev pub of_one : Text → Text → App
of_one name id = with_rule (new_app name) (needed id)

abbrev pub of_two : Text → Text → Text → App
of_two name first second = with_rule (of_one name first) (needed second)

abbrev pub run_app : App
run_app = with_rule (of_two (codes "run") (codes "world") (codes "script")) summary_flag

abbrev pub check_app : App
check_app = of_one (codes "check") (codes "world")

abbrev pub tree_app : App
tree_app = of_two (codes "tree") (codes "world") (codes "script")

abbrev pub gen_app : App
gen_app = with_rule (of_one (codes "gen") (codes "number")) (new_rule (codes "what"))

abbrev pub show_app : App
show_app = of_one (codes "show") (codes "file")

-- without help and version, and with a subcommand in each line; the words begin behind the program's name
abbrev pub bare_app : App
bare_app = by (new_app (codes "xdir"))
  where
    by : App → App
    by a =
        record a {
          top = record a.top {
            no_binary_name = true;
            disable_help_flag = true;
            disable_help_subcommand = true;
            disable_version_flag = true;
            subcommand_required = true;
          };
        }

abbrev pub with_app : App → App → App
with_app above sub = with_subcommand above sub.top

abbrev pub xdir_app : App
xdir_app = with_app (with_app (with_app (with_app (with_app bare_app run_app) check_app) tree_app) gen_app) show_app

-- a word that stands for itself, or the flag: others that begin with `-` are none
abbrev pub is_fit : Text → Bool
is_fit word = is_file_name word || is_summary word

-- ---- what the matches of a subcommand ask for

abbrev pub files_read : List Row → Option FileNames
files_read rows =
    option_and_then (λ world. option_map (λ script. record { world = world; script = script }) (first_of
    (codes "script") rows))
    (first_of (codes "world") rows)

abbrev pub is_marked : List Row → Bool
is_marked rows = by (first_of (codes "summary") rows)
  where
    by : Option Text → Bool
    by None = false
    by (Some word) = bytes_eq word (codes "true")

abbrev pub made_of : Option Text → ℕ → Option Form
made_of None n = Some (GenRun n)
made_of (Some what) n =
    if bytes_eq what (codes "world") then Some (GenWorld n)
    else if bytes_eq what (codes "script") then Some (GenScript n)
    else None

abbrev pub run_read : List Row → Option Form
run_read rows = option_map (λ files. Run files (is_marked rows)) (files_read rows)

abbrev pub tree_read : List Row → Option Form
tree_read rows = option_map Tree (files_read rows)

abbrev pub gen_read : List Row → Option Form
gen_read rows = option_and_then (made_of (first_of (codes "what") rows)) (option_and_then number_in (first_of
    (codes "number") rows))

abbrev pub check_read : List Row → Option Form
check_read rows = option_map Check (first_of (codes "world") rows)

abbrev pub show_read : List Row → Option Form
show_read rows = option_map Show (first_of (codes "file") rows)

abbrev pub form_read : Text → List Row → Option Form
form_read name rows =
    if bytes_eq name (codes "run") then run_read rows
    else if bytes_eq name (codes "check") then check_read rows
    else if bytes_eq name (codes "tree") then tree_read rows
    else if bytes_eq name (codes "gen") then gen_read rows
    else if bytes_eq name (codes "show") then show_read rows
    else None

abbrev pub form_found : Option (Text × List Row) → Option Form
form_found = option_and_then (λ p. form_read p.0 p.1)

abbrev pub is_want_of_memory : ErrorKind → Bool
is_want_of_memory OutOfMemory = true
is_want_of_memory other = false
