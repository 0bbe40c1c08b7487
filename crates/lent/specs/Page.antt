-- What is put on a page: a lent buffer that is filled from its start on, and the place up to which it is filled.
--   HasRoomFor page values   the values fit between the page's place and the end of its buffer
--   Puts old values new      the values were put from the page's place on, and the place is now the one after them; all else is as it was (`Put`), and the
--                            page is one of the same buffer
use Rattle.std.specs.Prelude.{◌≡◌, List, ℕ, ◌+◌, ◌≤◌, length}
use Rattle.lent.specs.declared.Page.{Page}
use Rattle.lent.specs.Lent.{Put}

pub record HasRoomFor (page : Page) (values : List ℕ) : Type 0 where
  pub fits : page.at + length values ≤ length page.out.now

pub record Puts (old : Page) (values : List ℕ) (new : Page) : Type 0 where
  pub put : Put old.out.now old.at values new.at new.out.now
  pub same_buffer : new.out.ghost_name ≡ old.out.ghost_name
