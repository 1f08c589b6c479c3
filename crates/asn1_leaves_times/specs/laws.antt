pub mod CalendarLaws
pub mod GrammarLaws
pub mod TimeContentsLaws
pub mod TimesLaws
