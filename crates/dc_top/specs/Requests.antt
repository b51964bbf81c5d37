-- What the words of a command ask for.
use Rattle.std.specs.Prelude.{◌≡◌, ◌⊎◌, ◌≤◌, ℕ, List, [], ◌∷◌, length, nat_lt, nat_le, if◌then◌else◌, Bool, IsTrue, Option, Some, None, MatchOption}
use Rattle.std.specs.Option.{option_map}
use Rattle.dc_base.specs.PlayText.{gen_text}
use Rattle.dc_base.specs.TextWords.{is_word, number_of, ended}
use Rattle.dc_io.specs.Counts.{Rose}
use Rattle.dc_io.specs.Told.{Adds, KeepsBeginning}
use Rattle.dc_top.specs.declared.requests.Request.{Request as Read}
use Rattle.dc_top.specs.declared.requests.Request.TheVariants as read
use Rattle.dc_top.specs.Contents.{OfFiles, OfInputs}
use Rattle.dc_top.specs.Calls.{Call, IsPlayStatus, PlayAnswers, TellsPlay, Wrote}
use Rattle.dc_top.specs.RunCalls.{IsRunStatus, RunAnswers, TellsRun}
use Rattle.dc_top.specs.BadInputs.{usage}
use Rattle.dc_top.specs.Written.{PlaysAs, WritesAs}

-- what the words of a command ask for; a file is given by its name
pub data Request : Type 0 where
  play : (image script schedule : List ℕ) → Request
  run : (image script : List ℕ) → Request
  gen : ℕ → Request

-- a request as the program reads it, with the bytes of its names
abbrev pub asked_by : Read → Request
asked_by (read.Play image script schedule) = play image.now script.now schedule.now
asked_by (read.Run image script) = run image.now script.now
asked_by (read.Gen n) = gen n

abbrev pub asked : Option Read → Option Request
asked request = option_map asked_by request

abbrev pub if_small : Option ℕ → Option ℕ
if_small None = None
if_small (Some n) = if nat_le n 65535 then Some n else None

-- the number of a generated input: 1 to 5 decimal digits, and at most 65,535
unfoldable pub gen_number : List ℕ → Option ℕ
gen_number word = if nat_lt 5 (length word) then None else if_small (number_of word)

unfoldable pub request_of : List (List ℕ) → Option Request
request_of (name ∷ n ∷ []) = if is_word "gen" name then option_map gen (gen_number n) else None
request_of (name ∷ image ∷ script ∷ []) = if is_word "run" name then Some (run image script) else None
request_of (name ∷ image ∷ script ∷ schedule ∷ []) = if is_word "play" name then Some (play image script schedule) else None
request_of words = None

-- where no form has these words, the usage is told
abbrev pub UsageTold : Call → ℕ → Type 0
UsageTold call status = WritesAs call.sink_faults call.sink_faults_after call.told call.told_after 1 (ended usage) status

-- a play and a run are answered by bytes that their files may hold, and the summary of a generated input by its number
abbrev pub RequestAnswers : Option (List ℕ → List ℕ) → Call → ℕ → Request → Type 0
RequestAnswers files call status (play image script schedule) =
    OfFiles files image script schedule (λ bytes. PlayAnswers image script schedule bytes call status)
RequestAnswers files call status (run image script) = OfInputs files image script (λ i s. RunAnswers image script i s call status)
RequestAnswers files call status (gen n) = PlaysAs call.sink_faults call.sink_faults_after call.told call.told_after (gen_text n) status

-- a request is answered, or the usage told where there is none
abbrev pub IsAnswered : Option Request → Option (List ℕ → List ℕ) → Call → ℕ → Type 0
IsAnswered request files call status = MatchOption request (UsageTold call status) (λ r. RequestAnswers files call status r)

-- A request was answered, and then a fault was counted as the sink wrote out what it held back: an end of the text is lost, and the status is 6.
pub record LosesItsEnd (request : Option Request) (files : Option (List ℕ → List ℕ)) (holds_back : Bool) (call : Call) (status : ℕ) : Type 0 where
  pub is_6 : status ≡ 6
  pub holds : IsTrue holds_back
  -- what the sink told before, its count of faults, and the status that there would have been
  pub mid : Option (List ℕ)
  pub faults : ℕ
  pub lost_status : ℕ
  pub rose : Rose faults call.sink_faults_after
  pub answered : IsAnswered request files (record call { sink_faults_after = faults; told_after = mid }) lost_status
  pub begins : KeepsBeginning mid call.told_after

-- what the words ask for is answered, whole or without its end
abbrev pub CommandAnswers : List (List ℕ) → Option (List ℕ → List ℕ) → Bool → Call → ℕ → Type 0
CommandAnswers words files holds_back call status =
    IsAnswered (request_of words) files call status ⊎ LosesItsEnd (request_of words) files holds_back call status

-- what was written for a request that was done: a text that tells a run of the files that it names, or the summary of the generated input
abbrev pub RequestTold : Option (List ℕ → List ℕ) → Option (List ℕ) → Option (List ℕ) → Option Request → Type 0
RequestTold shelf before after None = ⊥
RequestTold shelf before after (Some (play image script schedule)) =
    OfFiles shelf image script schedule (λ bytes. Wrote before after (TellsPlay bytes.image bytes.script bytes.schedule))
RequestTold shelf before after (Some (run image script)) = OfInputs shelf image script (λ i s. Wrote before after (TellsRun i s))
RequestTold shelf before after (Some (gen n)) = Adds before after (gen_text n)

-- the statuses of what the words ask for: where no form has them, that of the usage, or 6 where it was not written whole
abbrev pub HasStatusOf : Option Request → ℕ → Type 0
HasStatusOf None status = (status ≡ 1) ⊎ (status ≡ 6)
HasStatusOf (Some (play image script schedule)) status = IsPlayStatus status
HasStatusOf (Some (run image script)) status = IsRunStatus status
HasStatusOf (Some (gen n)) status = (status ≡ 0) ⊎ ((6 ≤ status) × (status ≤ 7))
