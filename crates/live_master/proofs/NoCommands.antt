-- No request is a line of a text, since no keyword is spelled so.
use Rattle.std.proofs.Common.{List, [], ◌∷◌, ◌≡◌, ◌∙◌, true, false, ap, refl, sym, subst}
use Rattle.std.specs.Str.{bytes_eq}
use Rattle.text_lines.specs.Texts.{Line, Word}
use Rattle.line_shapes.specs.Keywords.{spelling_of}
use Rattle.line_shapes.specs.Lines.{SaysNothing, words_in}
use Rattle.line_shapes.specs.declared.keyword.Keyword.{Keyword}
use Rattle.line_shapes.specs.declared.keyword.Keyword.TheVariants.{Problem}
use Rattle.live_master.specs.Requests.{IsRequest, word_of}
use Rattle.live_master.specs.declared.requests.Request.{Request}
use Rattle.live_master.specs.declared.requests.Request.TheVariants.{Audit, Commit, Drop, Open, Outputs, Workers}

differs : (q : Request) (k : Keyword) → bytes_eq (word_of q) (spelling_of k) ≡ false
differs Workers Problem = refl
differs Workers k = refl
differs Open Problem = refl
differs Open k = refl
differs Outputs Problem = refl
differs Outputs k = refl
differs Audit Problem = refl
differs Audit k = refl
differs Commit Problem = refl
differs Commit k = refl
differs Drop Problem = refl
differs Drop k = refl

same : (q : Request) → bytes_eq (word_of q) (word_of q) ≡ true
same Workers = refl
same Open = refl
same Outputs = refl
same Audit = refl
same Commit = refl
same Drop = refl

alone : (q : Request) (k : Keyword) → words_in k (word_of q) ≡ word_of q ∷ []
alone Workers Problem = refl
alone Workers k = refl
alone Open Problem = refl
alone Open k = refl
alone Outputs Problem = refl
alone Outputs k = refl
alone Audit Problem = refl
alone Audit k = refl
alone Commit Problem = refl
alone Commit k = refl
alone Drop Problem = refl
alone Drop k = refl

apart : (q : Request) (k : Keyword) (ws : List Word) → word_of q ∷ [] ≡ spelling_of k ∷ ws → ⊥
apart q k ws e =
    let is : word_of q ≡ spelling_of k = cc in
    let yes : bytes_eq (word_of q) (spelling_of k) ≡ true = subst (λ (w : Word). bytes_eq (word_of q) w ≡ true) is (same q) in
    cc (yes, differs q k)

pub no_command : (line : Line) → IsRequest line → SaysNothing line
no_command line (q, is) s says =
    apart q s.keyword s.words
    (sym (alone q s.keyword) ∙ ap (words_in s.keyword) (sym is) ∙ says.spelled)
