-- The commands, as `clap` parses them, for private functions.
use Rattle.std.specs.Prelude.{true, Option, Some, None, codes}
use Rattle.clap.specs.Words.{App, IsAmong, Kinds, Rule, Text, first_value, found_of, new_app, new_rule, with_rule}
use Rattle.clap.specs.Lexer.{usize_max}
use Rattle.clap.specs.declared.parser.matches.ArgMatches.{ArgMatches}
use Rattle.clap.specs.declared.error.kind.ErrorKind.{ErrorKind}

-- the words have some kind of error
abbrev pub HasFault : Kinds → Type 0
HasFault kinds = (kind : ErrorKind) × IsAmong kind kinds

-- a command without arguments, whose first word is an argument; help is switched off
abbrev pub bare : Text → App
bare name = record (new_app name) {
  top = record (new_app name).top {
    no_binary_name = true;
    disable_help_flag = true;
    disable_help_subcommand = true;
  };
}

-- a required positional argument
abbrev pub needed : Text → Rule
needed id = record (new_rule id) { required = true }

-- `pack TARGET GEAR [WORKERS]`
abbrev pub pack_app : App
pack_app =
    with_rule (with_rule (with_rule (bare (codes "pack")) (needed (codes "target"))) (needed (codes "gear")))
    (new_rule (codes "workers"))

-- `make SEED BYTES`
abbrev pub make_app : App
make_app = with_rule (with_rule (bare (codes "make")) (needed (codes "seed"))) (needed (codes "bytes"))

-- `read HASH FROM TO`
abbrev pub read_app : App
read_app =
    with_rule (with_rule (with_rule (bare (codes "read")) (needed (codes "hash"))) (needed (codes "from"))) (needed (codes "to"))

-- a required positional argument of one value or more
abbrev pub many_needed : Text → Rule
many_needed id =
    record (needed id) { range = Some (record { start_inclusive = 1; end_inclusive = usize_max }) }

-- `clean NAME..`
abbrev pub clean_app : App
clean_app = with_rule (bare (codes "clean")) (many_needed (codes "name"))

-- the value of an argument, if the words were accepted and it is there
abbrev pub value_of : Option ArgMatches → Text → Option Text
value_of None id = None
value_of (Some matches) id = first_value (found_of matches) id

-- two values, if both are there
abbrev pub both : Option Text → Option Text → Option (Text × Text)
both (Some a) (Some b) = Some (a, b)
both _ _ = None

-- two values, if both are there, and a third, if that is there
abbrev pub both_with : Option Text → Option Text → Option Text → Option (Text × Text × Option Text)
both_with (Some a) (Some b) c = Some (a, b, c)
both_with _ _ c = None

-- three values, if all are there
abbrev pub all_three : Option Text → Option Text → Option Text → Option (Text × Text × Text)
all_three (Some a) (Some b) (Some c) = Some (a, b, c)
all_three _ _ _ = None
