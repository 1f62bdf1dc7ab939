-- What is asked of a word in its place.
use Rattle.std.specs.Prelude.{ℕ, List, [], ◌≤◌, ◌<◌, Option, Some, None, length, slice_index_or}
use Rattle.std.specs.Borrow.{Bor}
use Rattle.text_lines.specs.Texts.{IsLongName, IsName, IsNumber, Word, number_of}
use Rattle.line_shapes.specs.declared.keyword.Keyword.{Keyword}
use Rattle.line_shapes.specs.declared.place.Place.{Place}
use Rattle.line_shapes.specs.declared.place.Place.TheVariants.{New, Used, Number, Text}
use Rattle.line_shapes.specs.declared.demand.Demand.{Demand}
use Rattle.line_shapes.specs.declared.demand.Demand.TheVariants.{Shape, Name, LongName, Range}
use Rattle.line_shapes.specs.Places.{place_at}

-- there is such a place; a number stands in a number's place, and no empty word in a name's; a text is any
abbrev pub HasShape : Option Place → Word → Type 0
HasShape None w = ⊥
HasShape (Some New) w = 0 < length w
HasShape (Some (Used kind)) w = 0 < length w
HasShape (Some (Number least most)) w = IsNumber w
HasShape (Some Text) w = Unit {0}

-- a name stands in a name's place
abbrev pub IsNamedIn : (Word → Type 0) → Option Place → Word → Type 0
IsNamedIn Named (Some New) w = Named w
IsNamedIn Named (Some (Used kind)) w = Named w
IsNamedIn Named place w = Unit {0}

abbrev pub IsNumberWithin : ℕ → ℕ → Word → Type 0
IsNumberWithin least most w = IsNumber w × (least ≤ number_of w) × (number_of w ≤ most)

-- a number is within its range
abbrev pub IsWithinIn : Option Place → Word → Type 0
IsWithinIn (Some (Number least most)) w = IsNumberWithin least most w
IsWithinIn place w = Unit {0}

abbrev pub MeetsDemand : Demand → Option Place → Word → Type 0
MeetsDemand Shape place w = HasShape place w
MeetsDemand Name place w = IsNamedIn IsName place w
MeetsDemand LongName place w = IsNamedIn IsLongName place w
MeetsDemand Range place w = IsWithinIn place w

-- each word after the keyword meets the demand
abbrev pub Meet : Demand → Keyword → List Word → Type 0
Meet demand k ws = (i : ℕ) → i < length ws → MeetsDemand demand (place_at k i) (slice_index_or ws i [])

-- the same of words behind references
abbrev pub MeetIn : Demand → Keyword → List (Bor (List ℕ)) → Type 0
MeetIn demand k ws = (i : ℕ) (d : Bor (List ℕ)) → i < length ws
    → MeetsDemand demand (place_at k i) (slice_index_or ws i d).now
