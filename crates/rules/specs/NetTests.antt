-- The nets of rows as they compute; proofs/ ties each to its relation.
use Rattle.std.specs.Prelude.{ℕ, zero, suc, ◌+◌, ◌*◌, ◌/◌, ◌%◌, Bool, true, false, cond, not, ◌&&◌, ◌||◌, List, [], length, Some, None, Option, ◌==◌, nat_lt, slice_index, slice_index_or}
use Rattle.carry.specs.declared.net.Place.{Place}
use Rattle.carry.specs.Webs.{Web}
use Rattle.carry.specs.Digits.{number}
use Rattle.rules.specs.Rows.{corner}
use Rattle.rules.specs.Readings.{reads, listed}

-- one of two listed readings is a rotation of the other
abbrev pub rotation : List ℕ → List ℕ → Bool
rotation a b =
    (slice_index a 0 == slice_index b 0 && (slice_index a 1 == slice_index b 1 && slice_index a 2 == slice_index b 2)) ||
    ((slice_index a 0 == slice_index b 1 && (slice_index a 1 == slice_index b 2 && slice_index a 2 == slice_index b 0)) ||
    (slice_index a 0 == slice_index b 2 && (slice_index a 1 == slice_index b 0 && slice_index a 2 == slice_index b 1)))

-- v is one of the three
abbrev pub among : List ℕ → ℕ → Bool
among a v = slice_index a 0 == v || (slice_index a 1 == v || slice_index a 2 == v)

-- the same three vertices
abbrev pub same_three : List ℕ → List ℕ → Bool
same_three a b =
    (among b (slice_index a 0) && (among b (slice_index a 1) && among b (slice_index a 2))) &&
    (among a (slice_index b 0) && (among a (slice_index b 1) && among a (slice_index b 2)))

-- what half-face h reads, as a list
abbrev pub read_at : List (List ℕ) → ℕ → List ℕ
read_at rs h = listed (reads rs h)

-- the half-faces h and g read alike
unfoldable pub alike : List (List ℕ) → ℕ → ℕ → Bool
alike rs h g = rotation (read_at rs h) (read_at rs g)

-- g is another half-face with the triangle of h
unfoldable pub meets : List (List ℕ) → ℕ → ℕ → Bool
meets rs h g = not (g == h) && same_three (read_at rs h) (read_at rs g)

-- what is there, else n if it will do
abbrev pub or_else : Option ℕ → Bool → ℕ → Option ℕ
or_else (Some g) b n = Some g
or_else None true n = Some n
or_else None false n = None

-- the lowest number below n that passes
unfoldable pub lowest : (ℕ → Bool) → ℕ → Option ℕ
lowest f zero = None
lowest f (suc n) = or_else (lowest f n) (f n) n

-- the lowest other half-face with the triangle of h
unfoldable pub opposite : List (List ℕ) → ℕ → Option ℕ
opposite rs h = lowest (meets rs h) (4 * length rs)

abbrev pub inside : List (List ℕ) → ℕ → ℕ → Bool
inside rs i s = nat_lt i (length rs) && nat_lt s 4

-- the half-face that side s of cell i is joined to; out of range, none
unfoldable pub partner : List (List ℕ) → ℕ → ℕ → Option ℕ
partner rs i s = cond (inside rs i s) (opposite rs (4 * i + s)) None

-- a half-face by its cell and side
abbrev pub placed : Option ℕ → Option Place
placed None = None
placed (Some g) = Some (record { item = g / 4; side = g % 4 })

unfoldable pub cell_joins : List (List ℕ) → ℕ → ℕ → Option Place
cell_joins rs i s = placed (partner rs i s)

-- the step from the half-face h to its opposite, if it has one
abbrev pub stepped : ℕ → (ℕ → ℕ → ℕ) → ℕ → Option ℕ → ℕ
stepped n f h None = n
stepped n f h (Some g) = f h g

unfoldable pub cell_steps : List (List ℕ) → ℕ → (ℕ → ℕ → ℕ) → ℕ → ℕ → ℕ
cell_steps rs n f i s = stepped n f (4 * i + s) (partner rs i s)

-- a net of rows: n is the neutral step, and f the one from a half-face to its opposite
abbrev pub cell_web : List (List ℕ) → ℕ → (ℕ → ℕ → ℕ) → Web
cell_web rs n f = record { items = length rs; sides = 4; joins = cell_joins rs; steps = cell_steps rs n f }

-- 1 where the half-faces h and g read alike
abbrev pub turning : List (List ℕ) → ℕ → ℕ → ℕ
turning rs h g = cond (alike rs h g) 1 0

-- the turn net
abbrev pub turn_web : List (List ℕ) → Web
turn_web rs = cell_web rs 0 (turning rs)

-- THE STAR NET: v and w are the vertices of an edge, or one vertex

-- v and w are on half-face h
unfoldable pub holds : List (List ℕ) → ℕ → ℕ → ℕ → Bool
holds rs v w h = among (read_at rs h) v && among (read_at rs h) w

-- the joins across triangles that hold v and w
unfoldable pub star_joins : List (List ℕ) → ℕ → ℕ → ℕ → ℕ → Option Place
star_joins rs v w i s = cond (holds rs v w (4 * i + s)) (cell_joins rs i s) None

abbrev pub star_web : List (List ℕ) → ℕ → ℕ → Web
star_web rs v w = record { items = length rs; sides = 4; joins = star_joins rs v w; steps = λ i s. 0 }

-- THE CORNER NET

-- the corner of the row x at the vertex v: the last where no other has it
unfoldable pub corner_at : List ℕ → ℕ → ℕ
corner_at x v = cond (corner x 0 == v) 0 (cond (corner x 1 == v) 1 (cond (corner x 2 == v) 2 3))

-- where corner i of the row x is joined to corner j of the row y: the corner of x that corner k of y is sent to
unfoldable pub sent : List ℕ → ℕ → List ℕ → ℕ → ℕ → ℕ
sent x i y j k = cond (k == j) i (corner_at x (corner y k))

-- four corners as a label
abbrev pub label : (ℕ → ℕ) → ℕ
label f = number (f 0) (f 1) (f 2) (f 3)

-- the step from the half-face h to the half-face g
unfoldable pub crossing : List (List ℕ) → ℕ → ℕ → ℕ
crossing rs h g = label (sent (slice_index_or rs (h / 4) []) (h % 4) (slice_index_or rs (g / 4) []) (g % 4))

abbrev pub corner_web : List (List ℕ) → Web
corner_web rs = cell_web rs 123 (crossing rs)
