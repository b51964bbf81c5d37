-- What a step makes of what a pass knows.
use Rattle.std.specs.Prelude.{ℕ, ◌+◌, true, false, [], ◌∷◌, Some, None}
use Rattle.dc_stage.specs.Numbers.{without}
use Rattle.dc_stage.specs.History.{Log, own}
use Rattle.dc_stage.specs.declared.view.View.{View}
use Rattle.dc_stage.specs.declared.view.Past.{Past}

module _ {Sc En : Type 0} where
  -- the first pass of a stage
  abbrev pub newcomer : Sc → View Sc En
  newcomer sc = record {
    live = true;
    scene = Some sc;
    actor = 0;
    seen = [];
    holds = [];
    took = [];
    refused = [];
    first = true;
    made = 1;
    told = [];
    joined = [];
  }

  -- object i is taken, and the log is seen
  abbrev pub taking : View Sc En → ℕ → Log En → View Sc En
  taking v i log = record v { seen = log; holds = i ∷ v.holds; took = i ∷ v.took }

  -- object i was with actor a
  abbrev pub refusing : View Sc En → ℕ → ℕ → View Sc En
  refusing v i a = record v { refused = (i, a) ∷ v.refused }

  -- object i goes home
  abbrev pub giving : View Sc En → ℕ → View Sc En
  giving v i = record v { holds = without i v.holds }

  -- the log is seen
  abbrev pub seeing : View Sc En → Log En → View Sc En
  seeing v log = record v { seen = log }

  -- one more pass is made
  abbrev pub making : View Sc En → View Sc En
  making v = record v { made = v.made + 1 }

  -- the pass that is made, which has seen as much
  abbrev pub made_of : View Sc En → View Sc En
  made_of v = record {
    live = true;
    scene = v.scene;
    actor = v.made;
    seen = v.seen;
    holds = [];
    took = [];
    refused = [];
    first = false;
    made = 0;
    told = [];
    joined = [];
  }

  -- what is kept of a pass that ends
  abbrev pub past_of : View Sc En → Past En
  past_of u = record { actor = u.actor; entries = own u.actor u.seen; took = u.took; refused = u.refused }

  -- another pass is joined
  abbrev pub taking_in : View Sc En → View Sc En → View Sc En
  taking_in v u = record v { told = u.seen; joined = past_of u ∷ v.joined }

  -- what is left of it
  abbrev pub ended : View Sc En
  ended = record {
    live = false;
    scene = None;
    actor = 0;
    seen = [];
    holds = [];
    took = [];
    refused = [];
    first = false;
    made = 0;
    told = [];
    joined = [];
  }
