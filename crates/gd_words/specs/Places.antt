-- The places of the command line, as the program holds them.
use Rattle.std.specs.Prelude.{option_map}
use Rattle.gd_words.specs.CommandLine.{Places}
use Rattle.gd_words.specs.declared.command_line.Given.{Given}

abbrev pub places_of : Given → Places
places_of g = record {
  command = option_map (λ w. w.now) g.command;
  x = option_map (λ w. w.now) g.x;
  y = option_map (λ w. w.now) g.y;
  setup = option_map (λ w. w.now) g.setup;
  seed = option_map (λ w. w.now) g.seed;
}
