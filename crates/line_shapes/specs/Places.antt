-- The table of lines: what stands in each place after a keyword.
use Rattle.std.specs.Prelude.{ℕ, List, [], ◌∷◌, Option, Some, None, slice_get}
use Rattle.line_shapes.specs.declared.keyword.Keyword.{Keyword}
use Rattle.line_shapes.specs.declared.keyword.Keyword.TheVariants as keyword
use Rattle.line_shapes.specs.declared.place.Kind.TheVariants as kind
use Rattle.line_shapes.specs.declared.place.Place.{Place}
use Rattle.line_shapes.specs.declared.place.Place.TheVariants.{New, Used, Number, Text}

-- what follows each keyword; a worker has up to so many slots and a split up to so many bytes in the newest
-- version of a text, and `line_rules` asks for fewer in older ones
abbrev pub places_of : Keyword → List Place
places_of keyword.Problem = Number 1 3 ∷ []
places_of keyword.Script = Number 1 3 ∷ []
places_of keyword.Job = Number 1 3 ∷ []
places_of keyword.Centre = New ∷ []
places_of keyword.Rack = New ∷ []
places_of keyword.Worker = New ∷ Used kind.Rack ∷ Number 0 255 ∷ []
places_of keyword.Split = New ∷ Number 0 8589934592 ∷ []
places_of keyword.Barred = Used kind.Split ∷ Used kind.Worker ∷ []
places_of keyword.Dead = Used kind.Worker ∷ []
places_of keyword.Busy = Used kind.Split ∷ []
places_of keyword.Places = Used kind.Worker ∷ Number 0 68719476736 ∷ []
places_of keyword.Parts = Number 1 64 ∷ []
places_of keyword.Target = Number 1 8 ∷ []
places_of keyword.Silence = Number 1 1000 ∷ []
places_of keyword.Doc = New ∷ Used kind.Split ∷ []
places_of keyword.Plan = []
places_of keyword.Start = Used kind.Split ∷ Used kind.Worker ∷ []
places_of keyword.Price = Used kind.Priced ∷ Number 0 18446744073709551615 ∷ []
places_of keyword.Begin = []
places_of keyword.Wave = []
places_of keyword.Ahead = []
places_of keyword.Done = Number 0 1000000 ∷ []
places_of keyword.Fail = Number 0 1000000 ∷ []
places_of keyword.Withdraw = Number 0 1000000 ∷ []
places_of keyword.Die = Used kind.Worker ∷ []
places_of keyword.Join = Used kind.Worker ∷ []
places_of keyword.Add = Used kind.Split ∷ Used kind.Worker ∷ []
places_of keyword.Lose = Used kind.Split ∷ Used kind.Worker ∷ []
places_of keyword.Sweep = []
places_of keyword.Reduce = []
places_of keyword.Copies = []
places_of keyword.Backup = Used kind.Split ∷ Used kind.Worker ∷ []
places_of keyword.End = []

-- and what may follow those places, any number of times
abbrev pub more_of : Keyword → Option Place
more_of keyword.Rack = Some (Used kind.Centre)
more_of keyword.Split = Some (Used kind.Worker)
more_of keyword.Places = Some (Number 0 68719476736)
more_of keyword.Doc = Some Text
more_of keyword.Join = Some (Used kind.Split)
more_of keyword.Ahead = Some (Number 0 255)
more_of keyword.Sweep = Some (Number 0 1099511627776)
more_of k = None

abbrev pub or_more : Option Place → Option Place → Option Place
or_more (Some place) more = Some place
or_more None more = more

-- the place of the word with this number, from 0, after the keyword
abbrev pub place_at : Keyword → ℕ → Option Place
place_at k i = or_more (slice_get (places_of k) i) (more_of k)
