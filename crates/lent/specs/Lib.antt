-- What a host lends, and values laid over it; then what is put on a page.
pub mod Lent
pub mod Page
